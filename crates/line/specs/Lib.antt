pub mod Burst
pub mod Memory
pub mod Frames
pub mod Line
pub mod Compose
pub mod Lent
pub mod Places
