pub mod Contents
pub mod Images
pub mod Outside
pub mod Places
pub mod Staging
pub mod Steps
pub mod Heads
