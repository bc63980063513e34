pub mod RangeLaws
pub mod WaitingLaws
