pub mod Leaves
pub mod Refusals
