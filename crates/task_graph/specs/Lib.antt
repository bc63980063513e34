pub mod Sorts
pub mod Edges
pub mod Graphs
