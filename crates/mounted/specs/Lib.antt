pub mod Names
pub mod Rounds
pub mod States
