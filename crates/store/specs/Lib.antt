pub mod Store
pub mod Stores
pub mod Laws
