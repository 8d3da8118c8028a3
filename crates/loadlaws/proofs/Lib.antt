pub mod Lists
pub mod Turns
pub mod Maps
pub mod Begins
