-- proofs, no definitions: what looks and calls do, and that what is given is the front of the whole, which is in order
pub mod FrontLaws
pub mod BufferLaws
pub mod RankLaws
pub mod MergeLaws
pub mod CallLaws
pub mod ClosingLaws
pub mod OrderLaws
