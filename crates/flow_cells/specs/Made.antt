-- Cells that are made.
use Rattle.std.specs.Prelude.{◌≡◌, ℕ, zero, suc, true, false, List, [], ◌++◌}
use Rattle.std.specs.List.{AllByRecursion as Each}
use Rattle.kap_base.specs.declared.items.Msg.{Msg}
use Rattle.node_core.specs.declared.node.Node.{Ghosts}
use Rattle.edge_queue.specs.Edges.{received, sent}
use Rattle.flow_cells.specs.declared.parts.OutEdge.{OutEdge}
use Rattle.flow_cells.specs.declared.parts.InEdge.{InEdge}
use Rattle.flow_cells.specs.declared.parts.Core.{Core}
use Rattle.flow_cells.specs.declared.parts.CellParts.{CellParts}
use Rattle.flow_cells.specs.Kept.{gathered, received_of}

-- a stream, which has no parents, has one buffer for its load
abbrev pub one_or_more : ℕ → ℕ
one_or_more zero = 1
one_or_more (suc n) = suc n

-- nothing was received since the load
abbrev pub IsFresh : InEdge → Type 0
IsFresh e = received e.head ≡ []

-- no message
abbrev pub IsNothing : List Msg → Type 0
IsNothing l = l ≡ []

-- no message was received since the load
abbrev pub HasNothing : {N : Type 0} → CellParts N → Type 0
HasNothing c = Each IsNothing (received_of c.ins.items c.source.value.items)

-- nothing was sent since the load, and nothing waits
abbrev pub IsUnused : OutEdge → Type 0
IsUnused o = (sent o.tail ≡ []) × (o.unsent ≡ [])

module _ {N P S : Type 0} (g : Ghosts N P S) where
  -- a node with nothing to send, which begins behind a barrier with this stamp
  pub record IsMade (stamp : ℕ) (n : N) (c : Core N) : Type 0 where
    pub node : c.node ≡ n
    pub outs : c.outs.items ≡ []
    pub effects : gathered c.gathered ++ c.effects ≡ []
    pub passed : c.passed.0 ≡ stamp
    pub clean : c.clean ≡ true
    pub keeps : c.keeps ≡ false
