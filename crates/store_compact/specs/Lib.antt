pub mod Same
pub mod Staying
pub mod Deciding
