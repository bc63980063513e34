-- what contracts see
pub mod Values
-- asks and the statuses of their replies
pub mod Asks
-- counts of faults, and what they cause
pub mod Causes
-- what calls of an engine leave of its store
pub mod Stores
-- what the lock keeps
pub mod Kept
-- what a desk answers
pub mod Desks
-- what doors tell behind serving
pub mod Posts
