-- How many messages the edges of a life have room for.
use Rattle.std.specs.Prelude.{ℕ, List, map}
use Rattle.flow_cells.specs.declared.parts.CellParts.{CellParts}
use Rattle.flow_cells.specs.Rooms.{rooms}

-- of each cell how many messages the edge of each of its outs has room for
abbrev pub rooms_of : {N : Type 0} → List (CellParts N) → List (List ℕ)
rooms_of cells = map rooms cells
