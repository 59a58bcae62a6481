pub mod Folds
pub mod Laid
pub mod Sound
pub mod Whole
