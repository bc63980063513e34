pub mod FewLaws
pub mod TableLaws
pub mod CellLaws
pub mod RunLaws
pub mod Loops
-- proofs, no definitions: the laws that impls of the traits hand on
pub mod CutLaws
pub mod SeqLaws
pub mod KeyLaws
