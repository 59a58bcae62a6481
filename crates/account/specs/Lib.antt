pub mod State
pub mod Listening
pub mod Texts
