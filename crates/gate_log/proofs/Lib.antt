mod Added
pub mod Beside
mod Exact
mod Fetching
mod Filling
mod Found
mod Gate
mod Onward
pub mod Quietly
mod Run
pub mod Unique
