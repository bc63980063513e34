-- what a union says
pub mod Unions
-- what a join says: its sets, the point that becomes of one, and what is said of a point
pub mod Sets
pub mod Results
pub mod Joins
pub mod Latest
-- what a join keeps of a group, and that as bytes
pub mod Queues
pub mod States
-- proofs, no definitions: the laws that the rule hands on
pub mod QueueLaws
pub mod JoinLaws
-- examples
pub mod Rows
