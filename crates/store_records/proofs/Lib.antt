pub mod BatchLaws
pub mod BodyLaws
pub mod FollowLaws
pub mod LineLaws
pub mod OrderLaws
pub mod SizeLaws
pub mod StateLoops
