pub mod Starts
pub mod CallRuns
pub mod Determined
pub mod Programs
pub mod Damage
