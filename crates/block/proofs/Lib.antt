pub mod Keys
pub mod Laws
pub mod Lists
pub mod Places
pub mod Steps
