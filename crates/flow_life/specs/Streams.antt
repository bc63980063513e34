-- What each node of a graph gives out in whole.
use Rattle.std.specs.Prelude.{◌≡◌, ℕ, Bool, List, [], ◌∷◌, None, Some, length, map, slice_get, slice_index_or, take}
use Rattle.std.specs.List.{AllZip}
use mathlib.Core.List.{IsPrefix}
use Rattle.kap_base.specs.declared.items.Msg.{Msg}
use Rattle.kap_base.specs.declared.items.Stamp.{Stamp}
use Rattle.node_core.specs.declared.node.Node.{Ghosts}
use Rattle.node_core.specs.Meaning.{Input, Move}
use Rattle.merge_node.specs.Merge.{Entry, Lists}
use Rattle.merge_node.specs.Buffers.{Merges, next}
use Rattle.rtrb.specs.Ring.{received as popped}
use Rattle.edge_queue.specs.declared.ends.Head.{Head}
use Rattle.edge_queue.specs.Edges.{received, ring_received, sent}
use Rattle.flow_cells.specs.declared.parts.OutEdge.{OutEdge}
use Rattle.flow_cells.specs.declared.parts.InEdge.{InEdge}
use Rattle.flow_cells.specs.declared.parts.CellParts.{CellParts}
use Rattle.flow_cells.specs.Runs.{Run, begun, run}
use Rattle.flow_cells.specs.Kept.{IsAt, run_of}
use Rattle.flow_life.specs.Places.{in_of, out_of}

-- what was received on an edge before the last load
abbrev pub received_before : Head → List Msg
received_before h = take (length (popped h.base.value)) (popped h.consumer)

-- the same of each input, in order
abbrev pub befores_of : List InEdge → List (List Msg)
befores_of ins = map (λ (e : InEdge). received_before e.head) ins

-- what was received on each input since it was made, in order
abbrev pub rings_of : List InEdge → List (List Msg)
rings_of ins = map (λ (e : InEdge). ring_received e.head) ins

-- a node at a load: its step, its state, the last barrier that it passed, the points and barriers of the load, its
-- parents, what it had received from each of them before, and whether its states at barriers are to be kept
pub record Plan (S : Type 0) : Type 0 where
  pub step : S → Input → Move S
  pub start : S
  pub passed : Stamp
  pub source : List Msg
  pub parents : List ℕ
  pub carried : List (List Msg)
  pub keeps : Bool

-- how long the stream of a node is
abbrev pub stream_length : List (List Msg) → ℕ → ℕ
stream_length streams node = length (slice_index_or streams node [])

-- the streams of some nodes
abbrev pub streams_at : List (List Msg) → List ℕ → Lists
streams_at streams parents = map (λ p. slice_index_or streams p []) parents

-- the streams of the parents; where there is none, the points and barriers of the load
abbrev pub streams_into : List (List Msg) → List ℕ → List Msg → Lists
streams_into streams [] source = source ∷ []
streams_into streams (p ∷ ps) source = streams_at streams (p ∷ ps)

module _ {S : Type 0} where
  -- the run of a node from its state at the load
  abbrev pub run_from : Plan S → List Entry → Run S
  run_from p merged = run p.step (begun p.start p.passed) merged

  -- what a node gives out in whole: the items of its run on the merged streams of its parents, each barrier behind the
  -- items up to it
  pub record IsStream (streams : List (List Msg)) (p : Plan S) (stream : List Msg) : Type 0 where
    pub merged : List Entry
    pub rest : Lists
    pub merges : Merges (streams_into streams p.parents p.source) merged rest
    pub stuck : next rest ≡ None
    pub is : stream ≡ (run_from p merged).outs

  -- the streams of all nodes
  abbrev pub AreStreams : List (Plan S) → List (List Msg) → Type 0
  AreStreams plans streams = AllZip (IsStream streams) plans streams

module _ {N P S : Type 0} (g : Ghosts N P S) where
  -- the node of a cell at the last load
  abbrev pub plan_of : CellParts N → Plan S
  plan_of c = record {
    step = g.step (g.spec c.base.value.node);
    start = g.state c.base.value.node;
    passed = c.base.value.passed;
    source = c.source.value.items;
    parents = map (λ (e : InEdge). e.from) c.ins.items;
    carried = befores_of c.ins.items;
    keeps = c.base.value.keeps;
  }

  -- the nodes of all cells
  abbrev pub plans_of : List (CellParts N) → List (Plan S)
  plans_of cells = map plan_of cells

  -- a cell stands where the run of its node on these messages stands: its state, what it gave out, its effects, its
  -- saved state
  abbrev pub StandsAt : CellParts N → List Entry → Type 0
  StandsAt c handled = IsAt g (g.spec c.base.value.node) (run_of g c.base.value handled) c.core

  -- a cell stands where the run on the beginning of a merged list stands
  pub record StandsWithin (c : CellParts N) (merged : List Entry) : Type 0 where
    pub handled : List Entry
    pub prefix : IsPrefix handled merged
    pub at : StandsAt c handled

  -- what each edge has carried is a prefix of the stream of its parent, and each cell has handled the beginning of its
  -- merged streams
  pub record CarriesPrefixes (cells : List (CellParts N)) : Type 0 where
    pub received : (streams : List (List Msg)) → AreStreams (plans_of cells) streams → (j k : ℕ) (e : InEdge)
        → in_of cells j k ≡ Some e → IsPrefix (received e.head) (slice_index_or streams e.from [])
    pub sent : (streams : List (List Msg)) → AreStreams (plans_of cells) streams → (j i : ℕ) (o : OutEdge)
        → out_of cells j i ≡ Some o → IsPrefix (sent o.tail) (slice_index_or streams j [])
    pub stands : (streams : List (List Msg)) → AreStreams (plans_of cells) streams → (j : ℕ) (c : CellParts N)
        → slice_get cells j ≡ Some c → (stream : List Msg) (whole : IsStream streams (plan_of c) stream)
        → StandsWithin c whole.merged

  -- what each edge has carried is the stream of its parent, and each cell has handled its merged streams
  pub record CarriesStreams (cells : List (CellParts N)) : Type 0 where
    pub received : (streams : List (List Msg)) → AreStreams (plans_of cells) streams → (j k : ℕ) (e : InEdge)
        → in_of cells j k ≡ Some e → received e.head ≡ slice_index_or streams e.from []
    pub sent : (streams : List (List Msg)) → AreStreams (plans_of cells) streams → (j i : ℕ) (o : OutEdge)
        → out_of cells j i ≡ Some o → sent o.tail ≡ slice_index_or streams j []
    pub stands : (streams : List (List Msg)) → AreStreams (plans_of cells) streams → (j : ℕ) (c : CellParts N)
        → slice_get cells j ≡ Some c → (stream : List Msg) (whole : IsStream streams (plan_of c) stream)
        → StandsAt c whole.merged
