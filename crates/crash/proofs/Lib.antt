pub mod Invariant
pub mod Steps
pub mod Moments
pub mod Theorem
