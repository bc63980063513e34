-- What a cell keeps by itself, whoever moves it.
use Rattle.std.specs.Prelude.{◌≡◌, ◌≤◌, ◌⊎◌, ℕ, true, false, List, [], ◌∷◌, ◌++◌, map, length, None}
use Rattle.std.specs.List.{AllByRecursion as Each}
use Rattle.kap_base.specs.declared.items.Effect.{Effect}
use Rattle.kap_base.specs.declared.items.Msg.{Msg}
use Rattle.node_core.specs.declared.node.Node.{Ghosts}
use Rattle.merge_node.specs.Merge.{Lists, Entry}
use Rattle.merge_node.specs.Buffers.{Merges, next}
use Rattle.edge_queue.specs.Edges.{received, sent}
use Rattle.flow_cells.specs.declared.parts.OutEdge.{OutEdge}
use Rattle.flow_cells.specs.declared.parts.InEdge.{InEdge}
use Rattle.flow_cells.specs.declared.parts.Gathered.{Gathered, Start, More'}
use Rattle.flow_cells.specs.declared.parts.Core.{Core}
use Rattle.flow_cells.specs.declared.parts.CellParts.{CellParts}
use Rattle.flow_cells.specs.Runs.{Run, begun, run}

-- the effects that were gathered since the load
abbrev pub gathered : Gathered → List Effect
gathered Start = []
gathered (More' shape before list) = gathered before ++ list.value

-- what was sent on an out since the load, and what waits there, are what was given out
abbrev pub IsGiven : List Msg → OutEdge → Type 0
IsGiven given o = sent o.tail ++ o.unsent ≡ given

-- what was received of each parent since the load; of a stream the points and barriers of the load
abbrev pub received_of : List InEdge → List Msg → Lists
received_of [] source = source ∷ []
received_of (e ∷ ins) source = map (λ (i : InEdge). received i.head) (e ∷ ins)

-- the state at the last barrier can be had of the cell: it is its node's, or it was spelled
abbrev pub HasKept : {N : Type 0} → CellParts N → Type 0
HasKept c = (c.core.clean ≡ true) ⊎ (c.core.keeps ≡ true)

module _ {N P S : Type 0} (g : Ghosts N P S) where
  -- the bytes spell this state of a node of this spec
  pub record Spells (p : P) (s : S) (bytes : List ℕ) : Type 0 where
    pub is : bytes ≡ g.spell p s
    pub fits : g.fits p s

  -- The core of a node of this spec stands where a run stands. The state at the last barrier is its state while no item
  -- came since; where one did, it is spelled, if the core is to keep it.
  pub record IsAt (p : P) (r : Run S) (c : Core N) : Type 0 where
    pub spec : g.spec c.node ≡ p
    pub state : g.state c.node ≡ r.state
    pub outs : Each (IsGiven r.outs) c.outs.items
    pub effects : gathered c.gathered ++ c.effects ≡ r.effects
    pub passed : c.passed ≡ r.passed
    pub clean : c.clean ≡ r.clean
    pub still : c.clean ≡ true → r.saved ≡ r.state
    pub saved : c.keeps ≡ true → c.clean ≡ false → Spells p r.saved c.saved

  -- the run of a core on what was handled since the load
  abbrev pub run_of : Core N → List Entry → Run S
  run_of base handled = run (g.step (g.spec base.node)) (begun (g.state base.node) base.passed) handled

  -- What is handled is what the merge determines of the received lists, and the buffer is the rest of them. The state,
  -- what was sent and waits, the effects and the state at the last barrier are those of the run on what is handled,
  -- from the core at the load.
  pub record KeptBy (base : Core N) (lists buffer : Lists) (c : Core N) : Type 0 where
    pub handled : List Entry
    pub merged : Merges lists handled buffer
    pub stuck : next buffer ≡ None
    pub at : IsAt (g.spec base.node) (run_of base handled) c
    pub ports : length buffer ≤ g.ports (g.spec base.node)
    pub keeps : c.keeps ≡ base.keeps

  -- what a cell keeps
  abbrev pub Keeps : CellParts N → Type 0
  Keeps c = KeptBy c.base.value (received_of c.ins.items c.source.value.items) c.buffer c.core

  -- the bytes spell the state at the last barrier that the cell has passed, or at the load where it passed none since
  pub record SpellsSaved (c : CellParts N) (bytes : List ℕ) : Type 0 where
    pub keeps : Keeps c
    pub spells : Spells (g.spec c.core.node) (run_of c.base.value keeps.handled).saved bytes

  -- such bytes were put behind others
  pub record PutsSaved (c : CellParts N) (before after : List ℕ) : Type 0 where
    pub bytes : List ℕ
    pub saved : SpellsSaved c bytes
    pub is : after ≡ before ++ bytes
