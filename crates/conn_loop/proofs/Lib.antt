pub mod NumberLaws
pub mod TurnLaws
pub mod LoopLaws
pub mod HistoryLaws
pub mod ServingLaws
