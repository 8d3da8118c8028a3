pub mod Order
pub mod Entries
