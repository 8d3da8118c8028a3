pub mod Convert
pub mod Verdicts
pub mod Passes
