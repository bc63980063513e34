-- what a node says of what arrives, and what it gives on a whole list
pub mod FewItems
pub mod Meaning
pub mod Cut
pub mod Numbering
-- nodes that treat each group by itself, and nodes that keep nothing
pub mod Keys
pub mod Groups
pub mod Machine
pub mod Places
pub mod Alone
-- a node of one kind or of another
pub mod Both
-- states as bytes
pub mod RunningSpelling
pub mod Loads
-- proofs, no definitions: the laws that impls of the traits hand on
pub mod Laws
pub mod GroupLaws
pub mod NumberLaws
