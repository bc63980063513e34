-- An edge between two cells is settled: both ends are shown what is on it.
use Rattle.std.specs.Prelude.{◌≡◌, ℕ, Some, slice_get, slice_set}
use Rattle.edge_queue.specs.Edges.{IsPaired, IsSettled}
use Rattle.flow_cells.specs.declared.parts.OutEdge.{OutEdge}
use Rattle.flow_cells.specs.declared.parts.InEdge.{InEdge}
use Rattle.flow_cells.specs.declared.parts.CellParts.{CellParts}
use Rattle.flow_cells.specs.Moves.{Eases, KeepsOthers, Still}

-- an input of a cell is fed by the out of its parent that it names
pub record IsFedBy {N : Type 0} (input : ℕ) (parent child : CellParts N) : Type 0 where
  pub edge : InEdge
  pub out : OutEdge
  pub at_child : slice_get child.ins.items input ≡ Some edge
  pub at_parent : slice_get parent.core.outs.items edge.out ≡ Some out
  pub pair : IsPaired out.tail edge.head

-- but for its inputs a cell stays
pub record KeepsAll {N : Type 0} (c d : CellParts N) : Type 0 where
  pub core : d.core ≡ c.core
  pub buffer : d.buffer ≡ c.buffer
  pub base : d.base ≡ c.base
  pub source : d.source ≡ c.source
  pub spent : d.spent ≡ c.spent

-- nothing went over the edge of an input, and both ends know what is on it; every other end stays
pub record Settles {N : Type 0} (input : ℕ) (parent child parent' child' : CellParts N) : Type 0 where
  pub edge : InEdge
  pub edge' : InEdge
  pub out : OutEdge
  pub out' : OutEdge
  pub at_child : slice_get child.ins.items input ≡ Some edge
  pub at_parent : slice_get parent.core.outs.items edge.out ≡ Some out
  pub head : Still edge edge'
  pub tail : Eases out out'
  pub settled : IsSettled out'.tail edge'.head
  pub ins : child'.ins.items ≡ slice_set child.ins.items input edge'
  pub outs : parent'.core.outs.items ≡ slice_set parent.core.outs.items edge.out out'
  pub of_parent : KeepsOthers parent parent'
  pub of_child : KeepsAll child child'
