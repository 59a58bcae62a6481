pub mod Ranges
pub mod Joined
pub mod LawfulSets
pub mod Mapped
