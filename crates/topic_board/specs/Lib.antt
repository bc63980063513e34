pub mod Values
pub mod Transitions
pub mod Ops
pub mod Rules
