pub mod Change
pub mod Contents
pub mod Window
