pub mod Targets
pub mod Stores
pub mod Header
pub mod View
pub mod Staging
