-- what waits at outs, and what sending does
pub mod Outs
-- what a node gives over items and barriers, and what a cell keeps of it
pub mod Runs
pub mod Kept
-- what handling messages does
pub mod Handled
-- what the moves of a cell do to it
pub mod Moves
-- what any number of moves leave of it
pub mod Moved
-- how many messages its edges have room for
pub mod Rooms
-- an edge that is settled, what a cell has to do, and effects that are gathered
pub mod Settles
pub mod Looks
pub mod Gathers
-- proofs, no definitions
pub mod HandledLaws
pub mod Promises
-- what is made, and that it keeps what a cell keeps
pub mod Made
-- what beginning a load does
pub mod Loads
