pub mod Texts
pub mod Numbers
pub mod Parts
pub mod Calls
pub mod Sorts
