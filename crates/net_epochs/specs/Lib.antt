-- lives of nets on their courses
pub mod Epochs
