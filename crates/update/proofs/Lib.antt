pub mod Records
pub mod Stores
pub mod Laws
pub mod OneBlock
