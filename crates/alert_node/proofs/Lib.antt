pub mod LevelLaws
pub mod CountLaws
pub mod CutLaws
pub mod DefaultLaws
