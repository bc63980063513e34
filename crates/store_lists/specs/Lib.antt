-- the lines of what a store holds
pub mod Lists
-- how they are written in pieces
pub mod Writing
-- why they aren't written whole
pub mod Faults
-- points whose records are read again
pub mod Exports
