pub mod Numbers
pub mod Laws
pub mod Words
pub mod Walk
pub mod Runs
