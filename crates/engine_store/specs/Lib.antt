-- scripts of a store, in the order of their records
pub mod Asking
-- transitions that are added to a store
pub mod Adding
-- stores that are right
pub mod Good
-- why no engine is made
pub mod Faults
-- lives that run while an engine is made
pub mod Opening
