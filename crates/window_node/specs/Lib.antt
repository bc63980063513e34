-- which batches a window gives, by the points of a group, in each of its forms
pub mod Batches
pub mod Edges
pub mod Waiting
pub mod Sliding
pub mod Counted
-- what is kept of a group, as bytes
pub mod States
-- proofs, no definitions: the laws that the rules of the three forms hand on
pub mod Lists
pub mod EdgeLaws
pub mod SlidingLaws
pub mod CountedLaws
-- examples
pub mod Rows
