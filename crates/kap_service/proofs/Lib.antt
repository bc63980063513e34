pub mod StoreLaws
pub mod PostLaws
pub mod KeptLaws
pub mod DoorLaws
