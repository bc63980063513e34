pub mod TapLaws
