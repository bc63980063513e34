-- Cells of one graph that moved by themselves: their edges need not be settled.
use Rattle.std.specs.Prelude.{◌≡◌, ℕ, ◌<◌, List, Some, length, slice_get}
use Rattle.std.specs.List.{AllZip}
use Rattle.node_core.specs.declared.node.Node.{Ghosts}
use Rattle.edge_queue.specs.Edges.{IsEdge, IsSettled, edge_capacity}
use Rattle.flow_cells.specs.declared.parts.OutEdge.{OutEdge}
use Rattle.flow_cells.specs.declared.parts.InEdge.{InEdge}
use Rattle.flow_cells.specs.declared.parts.CellParts.{CellParts}
use Rattle.flow_cells.specs.Kept.{Keeps}
use Rattle.flow_cells.specs.Moves.{Eases, Still}
use Rattle.flow_life.specs.Graphs.{IsLoaded}
use Rattle.flow_life.specs.Places.{in_of, out_of}
use Rattle.flow_life.specs.Streams.{plans_of}
use Rattle.flow_life.specs.Wired.{Feeds, outs_of, parents_of, sum_by_out, sum_of_all}

-- the edge of an input: it comes from an out of an earlier cell, which names this input
pub record IsTied {N : Type 0} (cells : List (CellParts N)) (cell k : ℕ) (e : InEdge) : Type 0 where
  pub out : OutEdge
  pub at : out_of cells e.from e.out ≡ Some out
  pub before : e.from < cell
  pub edge : IsEdge out.tail e.head
  pub child : out.child ≡ cell
  pub input : out.input ≡ k
  pub some : 0 < edge_capacity out.tail

-- each input is tied to an out and each out feeds an input; a cell is as often a parent as it has outs
pub record IsJoined {N : Type 0} (cells : List (CellParts N)) : Type 0 where
  pub ins : (j k : ℕ) (e : InEdge) → in_of cells j k ≡ Some e → IsTied cells j k e
  pub outs : (j i : ℕ) (o : OutEdge) → out_of cells j i ≡ Some o → Feeds cells j i o
  pub even : (f : ℕ → ℕ) → sum_of_all f (parents_of cells) ≡ sum_by_out f 0 (outs_of cells)

-- both ends of the edge of an input know what is on it
abbrev pub IsSettledAt : {N : Type 0} → List (CellParts N) → ℕ → ℕ → Type 0
IsSettledAt cells j k =
    (e : InEdge) (o : OutEdge) → in_of cells j k ≡ Some e → out_of cells e.from e.out ≡ Some o → IsSettled o.tail e.head

-- both ends know it on each edge of the cells before this one, and of its inputs before this one
pub record AreSettledTo {N : Type 0} (cells : List (CellParts N)) (cell input : ℕ) : Type 0 where
  pub cells_before : (j k : ℕ) → j < cell → IsSettledAt cells j k
  pub inputs_before : (k : ℕ) → k < input → IsSettledAt cells cell k

-- a cell has so many inputs
pub record HasInputs {N : Type 0} (child count : ℕ) (cells : List (CellParts N)) : Type 0 where
  pub cell : CellParts N
  pub at : slice_get cells child ≡ Some cell
  pub inputs : count ≡ length cell.ins.items

-- a cell has this input
pub record HasInput {N : Type 0} (child input : ℕ) (cells : List (CellParts N)) : Type 0 where
  pub edge : InEdge
  pub at : in_of cells child input ≡ Some edge

-- the same cell, whose ends may know more of what is on its edges
pub record HasLooked {N : Type 0} (c d : CellParts N) : Type 0 where
  pub ins : AllZip Still c.ins.items d.ins.items
  pub outs : AllZip Eases c.core.outs.items d.core.outs.items
  pub node : d.core.node ≡ c.core.node
  pub gathered : d.core.gathered ≡ c.core.gathered
  pub effects : d.core.effects ≡ c.core.effects
  pub saved : d.core.saved ≡ c.core.saved
  pub passed : d.core.passed ≡ c.core.passed
  pub clean : d.core.clean ≡ c.core.clean
  pub keeps : d.core.keeps ≡ c.core.keeps
  pub buffer : d.buffer ≡ c.buffer
  pub base : d.base ≡ c.base
  pub source : d.source ≡ c.source
  pub spent : d.spent ≡ c.spent

module _ {N P S : Type 0} (g : Ghosts N P S) where
  -- the cell at this place keeps what a cell keeps
  abbrev pub KeepsAt : ℕ → List (CellParts N) → Type 0
  KeepsAt j cells = (c : CellParts N) → slice_get cells j ≡ Some c → Keeps g c

  -- the cells before this one do
  abbrev pub KeepTo : ℕ → List (CellParts N) → Type 0
  KeepTo n cells = (j : ℕ) → j < n → KeepsAt j cells

  -- cells of one graph, whose last load ended with a barrier
  pub record IsLoose (cells : List (CellParts N)) : Type 0 where
    pub joined : IsJoined cells
    pub loaded : IsLoaded (plans_of g cells)
