pub mod Filling
pub mod Sums
pub mod Images
pub mod Behind
pub mod Damage
