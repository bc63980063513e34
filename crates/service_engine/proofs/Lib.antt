pub mod FaultLaws
pub mod AnswerLaws
pub mod OpenLaws
pub mod ReadLaws
pub mod Crossing
