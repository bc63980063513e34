pub mod Nodes
pub mod Names
pub mod Binding
pub mod Making
pub mod Law
pub mod FirstFault
