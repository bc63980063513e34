-- Nodes that are those of a graph.
use Rattle.std.specs.Prelude.{ℕ, suc, ◌<◌, ⊤, List, [], ◌∷◌}
use Rattle.std.specs.List.{AllByRecursion as Each}
use Rattle.kap_base.specs.declared.items.Msg.{Msg}
use Rattle.kap_base.specs.declared.items.Stamp.{Stamp}
use Rattle.flow_life.specs.Streams.{AreStreams, Plan}
use Rattle.merge_node.specs.Merge.{IsClosedBy}

-- the parents of each node stand before it; the nodes are numbered from here on
abbrev pub IsGraphFrom : {S : Type 0} → ℕ → List (Plan S) → Type 0
IsGraphFrom n [] = ⊤
IsGraphFrom n (p ∷ plans) = Each (λ (q : ℕ). q < n) p.parents × IsGraphFrom (suc n) plans

-- the parents of each node stand before it
abbrev pub IsGraph : {S : Type 0} → List (Plan S) → Type 0
IsGraph plans = IsGraphFrom 0 plans

-- a stream for each node
pub record HasStreams {S : Type 0} (plans : List (Plan S)) : Type 0 where
  pub streams : List (List Msg)
  pub are : AreStreams plans streams

-- the points of a load that came to a stream have these barriers, and one behind each
abbrev pub IsClosedFor : List Stamp → List ℕ → List Msg → Type 0
IsClosedFor bs [] source = IsClosedBy bs source
IsClosedFor bs (p ∷ parents) source = ⊤

-- all streams of a graph got the same barriers, and one behind each point
pub record IsLoaded {S : Type 0} (plans : List (Plan S)) : Type 0 where
  pub barriers : List Stamp
  pub closed : Each (λ (p : Plan S). IsClosedFor barriers p.parents p.source) plans
