-- What handling a message does to a core.
use Rattle.std.specs.Prelude.{◌≡◌, ℕ, List}
use Rattle.kap_base.specs.declared.items.Msg.{Msg}
use Rattle.node_core.specs.declared.node.Node.{Ghosts}
use Rattle.merge_node.specs.Merge.{Lists, Entry}
use Rattle.merge_node.specs.Buffers.{Merges}
use Rattle.flow_cells.specs.declared.parts.OutEdge.{OutEdge}
use Rattle.flow_cells.specs.declared.parts.Core.{Core}
use Rattle.flow_cells.specs.Runs.{Run, run, reacted}
use Rattle.flow_cells.specs.Kept.{IsAt}

-- an out of the same edge, at which more may wait
pub record Waits (a b : OutEdge) : Type 0 where
  pub tail : b.tail ≡ a.tail
  pub child : b.child ≡ a.child
  pub input : b.input ≡ a.input

module _ {N P S : Type 0} (g : Ghosts N P S) where
  -- wherever the core stood, it stands one message further
  abbrev pub Reacts : Core N → ℕ → Msg → Core N → Type 0
  Reacts c parent m d =
      (r : Run S) → IsAt g (g.spec c.node) r c → IsAt g (g.spec c.node) (reacted (g.step (g.spec c.node)) r parent m) d

  -- all that the buffers determine was handled
  pub record Handles (c : Core N) (b : Lists) (d : Core N) (e : Lists) : Type 0 where
    pub handled : List Entry
    pub merged : Merges b handled e
    pub at : (r : Run S) → IsAt g (g.spec c.node) r c
        → IsAt g (g.spec c.node) (run (g.step (g.spec c.node)) r handled) d
    pub spec : g.spec d.node ≡ g.spec c.node
    pub keeps : d.keeps ≡ c.keeps
