-- Cells of one graph whose edges are settled.
use Rattle.std.specs.Prelude.{◌≡◌, ℕ, zero, suc, ◌+◌, ◌<◌, false, List, [], ◌∷◌, Some, length, map}
use Rattle.std.specs.List.{AllByRecursion as Each}
use Rattle.node_core.specs.declared.node.Node.{Ghosts}
use Rattle.edge_queue.specs.Edges.{IsEdge, IsSettled, edge_capacity}
use Rattle.flow_cells.specs.declared.parts.OutEdge.{OutEdge}
use Rattle.flow_cells.specs.declared.parts.InEdge.{InEdge}
use Rattle.flow_cells.specs.declared.parts.CellParts.{CellParts}
use Rattle.flow_cells.specs.Kept.{Keeps}
use Rattle.flow_life.specs.Places.{in_of, out_of}

-- the edge of an input: it comes from an out of an earlier cell, which names this input, and both ends know what is on
-- it
pub record IsFed {N : Type 0} (cells : List (CellParts N)) (cell k : ℕ) (e : InEdge) : Type 0 where
  pub out : OutEdge
  pub at : out_of cells e.from e.out ≡ Some out
  pub before : e.from < cell
  pub edge : IsEdge out.tail e.head
  pub settled : IsSettled out.tail e.head
  pub child : out.child ≡ cell
  pub input : out.input ≡ k
  pub some : 0 < edge_capacity out.tail

-- the input that an out feeds, which names this out
pub record Feeds {N : Type 0} (cells : List (CellParts N)) (parent i : ℕ) (o : OutEdge) : Type 0 where
  pub edge : InEdge
  pub at : in_of cells o.child o.input ≡ Some edge
  pub from : edge.from ≡ parent
  pub out : edge.out ≡ i

-- of each cell its parents, in the order of its inputs
abbrev pub parents_of : {N : Type 0} → List (CellParts N) → List (List ℕ)
parents_of cells = map (λ c. map (λ (e : InEdge). e.from) c.ins.items) cells

-- of each cell how many outs it has
abbrev pub outs_of : {N : Type 0} → List (CellParts N) → List ℕ
outs_of cells = map (λ c. length c.core.outs.items) cells

-- a number for each parent of a list, added up
abbrev pub sum_of : (ℕ → ℕ) → List ℕ → ℕ
sum_of f [] = 0
sum_of f (p ∷ ps) = f p + sum_of f ps

-- the same over lists
abbrev pub sum_of_all : (ℕ → ℕ) → List (List ℕ) → ℕ
sum_of_all f [] = 0
sum_of_all f (ps ∷ pss) = sum_of f ps + sum_of_all f pss

-- a number as often as said
abbrev pub times : ℕ → ℕ → ℕ
times n zero = 0
times n (suc m) = n + times n m

-- a number for each out, that of its cell, added up
abbrev pub sum_by_out : (ℕ → ℕ) → ℕ → List ℕ → ℕ
sum_by_out f j [] = 0
sum_by_out f j (n ∷ ns) = times (f j) n + sum_by_out f (suc j) ns

-- each input is fed by an out and each out feeds an input; a cell is as often a parent as it has outs
pub record IsWired {N : Type 0} (cells : List (CellParts N)) : Type 0 where
  pub ins : (j k : ℕ) (e : InEdge) → in_of cells j k ≡ Some e → IsFed cells j k e
  pub outs : (j i : ℕ) (o : OutEdge) → out_of cells j i ≡ Some o → Feeds cells j i o
  pub even : (f : ℕ → ℕ) → sum_of_all f (parents_of cells) ≡ sum_by_out f 0 (outs_of cells)

-- no call on a cell failed in the middle
abbrev pub IsUnspent : {N : Type 0} → CellParts N → Type 0
IsUnspent c = c.spent ≡ false

module _ {N P S : Type 0} (g : Ghosts N P S) where
  -- cells that keep what a cell keeps, with edges that are settled
  pub record IsReady (cells : List (CellParts N)) : Type 0 where
    pub keeps : Each (Keeps g) cells
    pub unspent : Each IsUnspent cells
    pub wired : IsWired cells
