-- The states in which the nodes of cells were at a barrier.
use Rattle.std.specs.Prelude.{◌≡◌, ◌⊎◌, ⊤, ℕ, Contains, List, [], ◌∷◌, ◌++◌, map}
use Rattle.std.specs.List.{AllZip}
use Rattle.kap_base.specs.declared.items.Msg.TheVariants as messages
use Rattle.kap_base.specs.declared.items.Stamp.{Stamp}
use Rattle.node_core.specs.declared.node.Node.{Ghosts}
use Rattle.node_core.specs.Meaning.{Input}
use Rattle.merge_node.specs.Merge.{Entry, barriers}
use Rattle.merge_node.specs.Buffers.{Merges}
use Rattle.flow_cells.specs.declared.parts.CellParts.{CellParts}
use Rattle.flow_cells.specs.declared.parts.InEdge.{InEdge}
use Rattle.flow_cells.specs.Kept.{HasKept, received_of, run_of}
use Rattle.flow_core.specs.Nets.{NumberedLife}
use Rattle.barrier_snapshot.specs.Captures.{IsCapture}

-- the cells of lives, life by life
abbrev pub cells_in : {N : Type 0} → List (NumberedLife N) → List (CellParts N)
cells_in [] = []
cells_in (l ∷ lives) = l.life.cells ++ cells_in lives

-- a list ends with a barrier of this stamp, or has nothing, where the barrier before it has this stamp
pub data EndsAt (upto passed : Stamp) : List Entry → Type 0 where
  before_it : passed ≡ upto → EndsAt upto passed []
  with_it : (list : List Entry) (parent : ℕ) → EndsAt upto passed (list ++ (parent, messages.Barrier upto) ∷ [])

module _ {N P S : Type 0} (g : Ghosts N P S) where
  -- The state in which the node of a cell was at a barrier: the one that its run since the load had there. What it
  -- handled is what it handled up to the barrier, and more behind it.
  pub record WasAt (upto : Stamp) (c : CellParts N) (s : S) : Type 0 where
    pub before : List Entry
    pub after : List Entry
    pub merged : Merges (received_of c.ins.items c.source.value.items) (before ++ after) c.buffer
    pub ends : EndsAt upto c.base.value.passed before
    pub is : s ≡ (run_of g c.base.value before).state

  -- no input changes the state of a node of this spec
  abbrev pub NeverChanges : P → Type 0
  NeverChanges p = (s : S) (x : Input) → (g.step p s x).state ≡ s

  -- the barrier is the one before the load, or one of the load
  abbrev pub IsOfLoad : Stamp → CellParts N → Type 0
  IsOfLoad upto c = (c.base.value.passed ≡ upto) ⊎ Contains (barriers c.source.value.items) upto

  -- The barrier is the last that a cell has passed, and its state there can be had. A stream's, which has no inputs,
  -- may have passed later ones if its state never changes.
  abbrev pub HasPassed : Stamp → CellParts N → List InEdge → Type 0
  HasPassed upto c [] = HasKept c × ((c.core.passed ≡ upto) ⊎ (IsOfLoad upto c × NeverChanges (g.spec c.core.node)))
  HasPassed upto c (e ∷ ins) = HasKept c × (c.core.passed ≡ upto)

  -- and so of each cell
  abbrev pub HavePassed : Stamp → List (CellParts N) → Type 0
  HavePassed upto [] = ⊤
  HavePassed upto (c ∷ cells) = HasPassed upto c c.ins.items × HavePassed upto cells

  -- the bytes hold the states in which the nodes were at the barrier
  pub record IsCaptureAt (upto : Stamp) (cells : List (CellParts N)) (bytes : List ℕ) : Type 0 where
    pub states : List S
    pub were : AllZip (WasAt upto) cells states
    pub capture : IsCapture g.fits g.spell (map (λ c. g.spec c.core.node) cells) states bytes
