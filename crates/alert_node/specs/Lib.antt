pub mod Levels
pub mod Watches
pub mod Asking
pub mod Events
pub mod Alerts
pub mod AlertLaws
pub mod WatchSpelling
pub mod Rows
