pub mod Bytes
pub mod Spelling
pub mod Script
pub mod Front
pub mod Runs
