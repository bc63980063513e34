pub mod Nodes
pub mod Tasks
pub mod Behaviours
pub mod Kinds
pub mod Seats
pub mod Says
pub mod Drafts
