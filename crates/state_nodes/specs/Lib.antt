-- what nodes say of a point
pub mod Words
-- what each kind says, and what it keeps of a group
pub mod StateCounts
pub mod ChangeDetects
pub mod Differences
pub mod CumulativeSums
pub mod ElapsedTimes
-- examples
pub mod Rows
