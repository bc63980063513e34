-- what bytes a value has, and what a cursor takes
pub mod Spelling
pub mod Numbers
pub mod Wide
pub mod Texts
pub mod Maps
pub mod Values
pub mod Levels
pub mod Groups
pub mod Points
pub mod Places
-- proofs, no definitions: the laws of spellings, which each impl of the trait hands on
pub mod Laws
