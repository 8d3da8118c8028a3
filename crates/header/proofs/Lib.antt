pub mod Tables
pub mod Every
pub mod Loops
pub mod Neighbours
pub mod Ends
