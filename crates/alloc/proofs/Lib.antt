pub mod Laws
pub mod Plan
