-- engines on their disks
pub mod Engines
-- what points that are written leave
pub mod Writing
-- what a change of a task leaves
pub mod Changing
-- what the compaction of a store leaves
pub mod Compacting
