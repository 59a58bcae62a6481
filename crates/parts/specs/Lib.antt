pub mod Panel
pub mod Fitted
pub mod Reading
