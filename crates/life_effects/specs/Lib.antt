-- what the lives of a store have done
pub mod Effects
-- when the events of transitions were
pub mod Times
-- lives of which the open ones alone have seen points
pub mod OpenAlone
-- lives that do the same under other numbers
pub mod Renumbered
