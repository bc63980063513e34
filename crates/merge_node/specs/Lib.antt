-- lists of messages merged as a whole
pub mod Merge
-- what waits for each parent, which message is next, and what calls make of it
pub mod Buffers
pub mod Looking
