-- What a cell has to do, as its own ends know.
use Rattle.std.specs.Prelude.{◌≡◌, ℕ, Bool, false, true, nat_lt, List, Some, length, slice_get}
use Rattle.std.specs.List.{list_any}
use Rattle.edge_queue.specs.Edges.{known}
use Rattle.flow_cells.specs.declared.parts.InEdge.{InEdge}
use Rattle.flow_cells.specs.declared.parts.CellParts.{CellParts}
use Rattle.flow_cells.specs.Outs.{has_unsent}

-- a message is known on the edge of an input
abbrev pub knows_some : InEdge → Bool
knows_some e = nat_lt 0 (length (known e.head))

-- a message is known on the edge of some input
abbrev pub has_known : List InEdge → Bool
has_known ins = list_any knows_some ins

-- there is such an input, a message is known on its edge, and none waits to be sent
pub record CanTake {N : Type 0} (input : ℕ) (c : CellParts N) : Type 0 where
  pub edge : InEdge
  pub at : slice_get c.ins.items input ≡ Some edge
  pub knows : knows_some edge ≡ true
  pub none : has_unsent c.core.outs.items ≡ false

-- nothing waits to be sent, and nothing is known on an edge
pub record IsQuiet {N : Type 0} (c : CellParts N) : Type 0 where
  pub unsent : has_unsent c.core.outs.items ≡ false
  pub known : has_known c.ins.items ≡ false
