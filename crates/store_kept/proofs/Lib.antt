pub mod Batches
pub mod Following
pub mod Keeping
pub mod Places
pub mod Records
