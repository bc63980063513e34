pub mod DraftLaws
pub mod Crossing
pub mod SaysLaws
pub mod NewLaws
