pub mod Again
pub mod Pushes
