pub mod Tree
pub mod Runs
pub mod Push
