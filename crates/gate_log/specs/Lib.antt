pub mod Bodies
pub mod Logs
pub mod Causes
pub mod Marks
pub mod Reading
pub mod Readers
pub mod Head
