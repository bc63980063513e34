-- what went over an edge, ever and since the last load, and what its ends know
pub mod Edges
-- what calls do to the ends
pub mod Moves
