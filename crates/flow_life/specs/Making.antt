-- A cell is added to a life, edge by edge.
use Rattle.std.specs.Prelude.{◌≡◌, ℕ, ◌+◌, ◌⊎◌, true, List, [], Some, length, map, slice_get}
use Rattle.std.specs.List.{AllByRecursion as Each}
use Rattle.node_core.specs.declared.node.Node.{Ghosts}
use Rattle.edge_queue.specs.Edges.{ring_received}
use Rattle.flow_cells.specs.declared.parts.OutEdge.{OutEdge}
use Rattle.flow_cells.specs.declared.parts.InEdge.{InEdge}
use Rattle.flow_cells.specs.declared.parts.CellParts.{CellParts}
use Rattle.flow_cells.specs.Kept.{Keeps}
use Rattle.flow_cells.specs.Made.{HasNothing, IsFresh}
use Rattle.flow_life.specs.Places.{in_of, out_of}
use Rattle.flow_life.specs.Wired.{Feeds, IsFed, IsUnspent, outs_of, parents_of, sum_by_out, sum_of, sum_of_all}

-- the node of each cell
abbrev pub nodes_of : {N : Type 0} → List (CellParts N) → List N
nodes_of cells = map (λ c. c.core.node) cells

-- the stamp of the last barrier that each cell passed
abbrev pub passed_of : {N : Type 0} → List (CellParts N) → List ℕ
passed_of cells = map (λ c. c.core.passed.0) cells

-- no message was received on an edge since it was made
abbrev pub IsUntouched : InEdge → Type 0
IsUntouched e = ring_received e.head ≡ []

-- and so of each input of a cell
abbrev pub HasCarriedNothing : {N : Type 0} → CellParts N → Type 0
HasCarriedNothing c = Each IsUntouched c.ins.items

-- an out feeds one of the inputs of the cell that comes next
pub record FeedsNext (ins : List InEdge) (cell parent i : ℕ) (o : OutEdge) : Type 0 where
  pub edge : InEdge
  pub at : slice_get ins o.input ≡ Some edge
  pub child : o.child ≡ cell
  pub from : edge.from ≡ parent
  pub out : edge.out ≡ i

-- each input is fed by an out, and each out feeds an input, of one of the cells or of the one that comes next
pub record IsWiredWith {N : Type 0} (new : List InEdge) (cells : List (CellParts N)) : Type 0 where
  pub ins : (j k : ℕ) (e : InEdge) → in_of cells j k ≡ Some e → IsFed cells j k e
  pub next : (k : ℕ) (e : InEdge) → slice_get new k ≡ Some e → IsFed cells (length cells) k e
  pub outs : (j i : ℕ) (o : OutEdge) → out_of cells j i ≡ Some o → Feeds cells j i o
      ⊎ FeedsNext new (length cells) j i o
  pub even : (f : ℕ → ℕ)
      → sum_of_all f (parents_of cells) + sum_of f (map (λ (e : InEdge). e.from) new) ≡ sum_by_out f 0 (outs_of cells)

-- no item came to a cell since the last barrier
abbrev pub IsClean : {N : Type 0} → CellParts N → Type 0
IsClean c = c.core.clean ≡ true

module _ {N P S : Type 0} (g : Ghosts N P S) where
  -- cells on which nothing was received since the load, with the inputs of the one that comes next
  pub record AreBlank (ins : List InEdge) (cells : List (CellParts N)) : Type 0 where
    pub keeps : Each (Keeps g) cells
    pub unspent : Each IsUnspent cells
    pub nothing : Each HasNothing cells
    pub fresh : Each IsFresh ins
    pub wired : IsWiredWith ins cells
