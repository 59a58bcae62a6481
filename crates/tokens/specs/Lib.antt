pub mod Words
pub mod Gathered
pub mod Numbers
