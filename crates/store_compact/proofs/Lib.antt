pub mod Tasks
pub mod Lives
pub mod Later
pub mod Thin
pub mod Step
pub mod Total
