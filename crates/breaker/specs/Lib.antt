pub mod Terms
pub mod Contacts
pub mod Carried
pub mod Names
