pub mod InputLaws
pub mod OutputLaws
pub mod DialogLaws
pub mod NumberLaws
pub mod DriveLaws
