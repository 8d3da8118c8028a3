pub mod Laws
pub mod Length
