pub mod Passes
pub mod Meaning
pub mod Writes
pub mod Example
