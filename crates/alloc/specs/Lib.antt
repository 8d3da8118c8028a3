pub mod Parts
pub mod Draft
