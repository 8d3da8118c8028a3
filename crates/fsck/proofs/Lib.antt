pub mod Names
pub mod Records
