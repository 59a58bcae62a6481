pub mod Causes
pub mod Laws
pub mod Checks
pub mod Texts
