-- lives that run in a net while points come
pub mod Spans
-- lives, seen later
pub mod Later
-- their nodes and names, by their scripts
pub mod Scripts
-- why they don't run
pub mod Faults
-- transitions that a store is to hold
pub mod Whole
-- lives that have run on points
pub mod Running
-- lives that are planned again
pub mod Restoring
