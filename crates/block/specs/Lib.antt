pub mod Keys
pub mod Places
pub mod Stores
