-- what nodes say of a point
pub mod Words
pub mod Streams
pub mod Dimensions
pub mod Logs
pub mod Defaults
pub mod Deletions
pub mod Shifts
pub mod Conditions
-- what each kind says, and of what it keeps
pub mod PointKinds
pub mod GroupKinds
-- what a rule is given of what a script hands over
pub mod Nodes
-- examples
pub mod Rows
