pub mod Places
pub mod Volumes
pub mod LentSessions
pub mod Images
pub mod LentCalls
