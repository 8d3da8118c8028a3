pub mod Order
pub mod Ranks
pub mod Listed
pub mod Header
pub mod Laws
pub mod Steps
pub mod Copies
