pub mod Crossing
pub mod EpochLaws
pub mod JoinLaws
