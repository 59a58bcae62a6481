pub mod Cut
pub mod Digits
pub mod Gathering
