pub mod FieldLaws
pub mod CodeLaws
pub mod LatestLaws
pub mod OwnSetLaws
