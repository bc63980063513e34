pub mod Actions
pub mod Reading
pub mod Spellings
pub mod Filling
pub mod Rows
