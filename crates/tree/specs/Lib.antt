pub mod Slots
pub mod Runs
pub mod Reached
