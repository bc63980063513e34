pub mod DimensionLaws
pub mod DeletionLaws
pub mod TagLaws
pub mod TimeLaws
