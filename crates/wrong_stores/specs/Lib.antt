pub mod Wrong
pub mod Fields
