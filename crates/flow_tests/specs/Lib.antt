-- a node of the tests
pub mod Taps
-- nets that are stopped at a barrier, and nets that go on there
pub mod Captures
