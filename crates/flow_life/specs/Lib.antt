-- the ends of edges in a list of cells
pub mod Places
-- cells of one graph whose edges are settled
pub mod Wired
-- what each node gives out in whole
pub mod Streams
-- nodes that are those of a graph
pub mod Graphs
-- which steps are enabled, and when nothing is left to do
pub mod Steps
-- an edge is settled, and one list grows
pub mod Settling
-- a load begins
pub mod Loads
-- effects are gathered
pub mod Gathers
-- what nodes are, and what was gathered from each
pub mod Nodes
-- how many messages edges have room for
pub mod Rooms
-- all steps, in order
pub mod Listing
-- what is still to be sent and to be received
pub mod Left
-- what a step leaves of what can be made and gathered
pub mod Trying
-- steps, one after the other
pub mod Playing
-- a cell is added
pub mod Making
-- what a life keeps
pub mod Lives
-- cells that move by themselves
pub mod Loose
-- proofs, no definitions
pub mod GraphLaws
