pub mod FieldLaws
pub mod ChangeLaws
pub mod ElapsedLaws
pub mod NumberLaws
