mod CrashLaws
mod FileLaws
mod MemDiskCalls
pub mod KnownLaws
