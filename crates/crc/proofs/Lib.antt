pub mod Linear
pub mod Table
pub mod Joined
