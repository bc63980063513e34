-- bytes that hold states, and what is read of them
pub mod Captures
pub mod Reading
pub mod Faults
-- lives in the states that bytes hold
pub mod Loading
pub mod Restoring
-- the states at a barrier, and what cells have saved
pub mod Barriers
pub mod Capturing
-- what is done behind a barrier
pub mod GoingOn
pub mod Passing
pub mod Steady
-- lives that were stopped, and lives that go on
pub mod Resuming
-- snapshots of lives on their courses
pub mod Snapshots
