pub mod Steps
pub mod Polls
