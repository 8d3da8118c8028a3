pub mod Records
pub mod Walk
