-- Streams whose nodes have one state alone, whatever they are fed.
use Rattle.std.specs.Prelude.{◌≡◌, ◌⊎◌, ⊤, ℕ, Contains, List, [], ◌∷◌}
use Rattle.kap_base.specs.declared.items.Stamp.{Stamp}
use Rattle.node_core.specs.declared.node.Node.{Ghosts}
use Rattle.merge_node.specs.Merge.{barriers}
use Rattle.flow_life.specs.Streams.{Plan}
use Rattle.flow_core.specs.Nets.{NumberedLife, plans_in, specs_in}
use Rattle.task_run.specs.Plans.{PlanValue}
use Rattle.barrier_snapshot.specs.Barriers.{NeverChanges}

module _ {N P S : Type 0} (g : Ghosts N P S) where
  -- of a stream, which has no parents: no input changes its state, and the barrier is the one before the load, or one
  -- of the load
  abbrev pub IsSteady : Stamp → Plan S → P → Type 0
  IsSteady upto plan p =
      plan.parents ≡ [] → ((plan.passed ≡ upto) ⊎ Contains (barriers plan.source) upto) × NeverChanges g p

  -- and so of each node of a life
  abbrev pub AreSteady : Stamp → List (Plan S) → List P → Type 0
  AreSteady upto [] specs = ⊤
  AreSteady upto (p ∷ plans) [] = ⊤
  AreSteady upto (p ∷ plans) (q ∷ specs) = IsSteady upto p q × AreSteady upto plans specs

  -- and of lives
  abbrev pub AllSteady : Stamp → List (List (Plan S)) → List (List P) → Type 0
  AllSteady upto [] specs = ⊤
  AllSteady upto (ps ∷ plans) [] = ⊤
  AllSteady upto (ps ∷ plans) (qs ∷ specs) = AreSteady upto ps qs × AllSteady upto plans specs

  -- and of those of a net
  abbrev pub HasSteadyStreams : Stamp → List (NumberedLife N) → Type 0
  HasSteadyStreams upto lives = AllSteady upto (plans_in g lives) (specs_in g lives)

  -- no input changes the state of a stream among nodes, which has no parents
  abbrev pub StreamsNeverChange : List N → List (List ℕ) → Type 0
  StreamsNeverChange [] parents = ⊤
  StreamsNeverChange (n ∷ nodes) [] = ⊤
  StreamsNeverChange (n ∷ nodes) (ps ∷ parents) =
      (ps ≡ [] → NeverChanges g (g.spec n)) × StreamsNeverChange nodes parents

  -- and among those of a plan
  abbrev pub HasSteadyStream : PlanValue N → Type 0
  HasSteadyStream plan = StreamsNeverChange plan.nodes plan.parents
