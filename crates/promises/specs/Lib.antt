pub mod Reached
pub mod Ready
pub mod Restored
pub mod FirstCreate
pub mod FirstWrite
pub mod Promises
pub mod Images
pub mod Advance
