-- How many messages are still to be sent and to be received until nothing is left to do.
use Rattle.std.specs.Prelude.{ℕ, ◌+◌, ◌-◌, List, [], ◌∷◌, ◌++◌, map}
use Rattle.kap_base.specs.declared.items.Msg.{Msg}
use Rattle.node_core.specs.declared.node.Node.{Ghosts}
use Rattle.flow_cells.specs.declared.parts.CellParts.{CellParts}
use Rattle.flow_life.specs.GraphLaws.{stream_of}
use Rattle.flow_life.specs.Steps.{moves_of}
use Rattle.flow_life.specs.Streams.{Plan, plans_of, stream_length}
use Rattle.flow_life.specs.Wired.{sum_of_all}

module _ {S : Type 0} where
  -- the streams of nodes behind some whose streams are known
  abbrev pub streams_behind : List (List Msg) → List (Plan S) → List (List Msg)
  streams_behind known [] = []
  streams_behind known (p ∷ plans) = stream_of known p ∷ streams_behind (known ++ stream_of known p ∷ []) plans

  -- the length of the streams of a graph over all its edges
  abbrev pub edges_length : List (Plan S) → ℕ
  edges_length plans = sum_of_all (stream_length (streams_behind [] plans)) (map (λ (p : Plan S). p.parents) plans)

  -- each message of each stream is sent once over each edge, and received once
  unfoldable pub due : List (Plan S) → ℕ
  due plans = edges_length plans + edges_length plans

module _ {N P S : Type 0} (g : Ghosts N P S) where
  -- what is due at cells, less what was sent and received since the load
  unfoldable pub left_of : List (CellParts N) → ℕ
  left_of cells = due (plans_of g cells) - moves_of cells
