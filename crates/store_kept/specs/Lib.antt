pub mod Keeping
pub mod Changing
pub mod Lives
pub mod Taking
