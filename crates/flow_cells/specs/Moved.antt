-- What takes and puts of its own, however many, leave of a cell.
use Rattle.std.specs.Prelude.{◌≡◌}
use Rattle.std.specs.List.{AllZip}
use mathlib.Core.List.{IsPrefix}
use Rattle.edge_queue.specs.Edges.{received, ring_received, ring_sent, sent}
use Rattle.edge_queue.specs.Moves.{SameHead, SameTail}
use Rattle.flow_cells.specs.declared.parts.OutEdge.{OutEdge}
use Rattle.flow_cells.specs.declared.parts.InEdge.{InEdge}
use Rattle.flow_cells.specs.declared.parts.CellParts.{CellParts}

-- an input of the same edge and load, from which more may have been taken
pub record Came (a b : InEdge) : Type 0 where
  pub head : SameHead a.head b.head
  pub ring_received : IsPrefix (ring_received a.head) (ring_received b.head)
  pub received : IsPrefix (received a.head) (received b.head)
  pub from : b.from ≡ a.from
  pub out : b.out ≡ a.out

-- an out of the same edge and load, on which more may have been put
pub record Went (a b : OutEdge) : Type 0 where
  pub tail : SameTail a.tail b.tail
  pub ring_sent : IsPrefix (ring_sent a.tail) (ring_sent b.tail)
  pub sent : IsPrefix (sent a.tail) (sent b.tail)
  pub child : b.child ≡ a.child
  pub input : b.input ≡ a.input

-- the same cell of the same load, from which nothing was gathered; its edges have carried what they had, and maybe more
pub record HasMoved {N : Type 0} (c d : CellParts N) : Type 0 where
  pub ins : AllZip Came c.ins.items d.ins.items
  pub outs : AllZip Went c.core.outs.items d.core.outs.items
  pub gathered : d.core.gathered ≡ c.core.gathered
  pub base : d.base ≡ c.base
  pub source : d.source ≡ c.source
  pub spent : d.spent ≡ c.spent
