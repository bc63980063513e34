pub mod Print
pub mod Places
pub mod Law
