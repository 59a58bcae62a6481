pub mod Table
pub mod Checks
pub mod Verdict
pub mod Laws
