-- Lives that were stopped within a load, and others that go on from where they were at a barrier of it.
use Rattle.std.specs.Prelude.{◌≡◌, ◌<◌, ◌≤◌, ℕ, List, Some, filter, length, map, nat_lt}
use Rattle.std.specs.List.{AllByRecursion as Each, AllZip}
use Rattle.kap_base.specs.Points.{PointValue}
use Rattle.kap_base.specs.declared.items.Effect.{Effect}
use Rattle.kap_base.specs.declared.items.Msg.{Msg}
use Rattle.kap_base.specs.declared.items.Msg.TheVariants as messages
use Rattle.kap_base.specs.declared.items.Stamp.{Stamp}
use Rattle.node_core.specs.declared.node.Node.{Ghosts}
use Rattle.node_core.specs.Meaning.{Input, fold}
use Rattle.merge_node.specs.Merge.{rank}
use Rattle.edge_queue.specs.Edges.{received}
use Rattle.flow_cells.specs.declared.parts.CellParts.{CellParts}
use Rattle.flow_cells.specs.declared.parts.InEdge.{InEdge}
use Rattle.flow_life.specs.Loads.{plan_now}
use Rattle.flow_life.specs.Making.{IsClean, passed_of}
use Rattle.flow_life.specs.Nodes.{specs_of}
use Rattle.flow_life.specs.Places.{in_of}
use Rattle.flow_life.specs.Streams.{plans_of}
use Rattle.flow_life.specs.Wired.{parents_of}
use Rattle.flow_core.specs.LifeLoads.{effects_since}
use Rattle.flow_core.specs.Making.{IsLifeBehind}
use Rattle.flow_core.specs.Messages.{AreMarksOf, load_messages}
use Rattle.flow_core.specs.Nets.{IsLifeIn, IsResting, NumberedLife, plans_from, plans_in, specs_in}
use Rattle.flow_core.specs.Done.{effects_in}
use Rattle.task_run.specs.Plans.{PlanValue}

-- messages behind a barrier: those of higher ranks
abbrev pub msgs_behind : Stamp → List Msg → List Msg
msgs_behind upto msgs = filter (λ m. nat_lt (rank (messages.Barrier upto)) (rank m)) msgs

-- effects behind a barrier: those with higher stamps
abbrev pub effects_behind : Stamp → List Effect → List Effect
effects_behind upto effects = filter (λ e. nat_lt upto.0 e.stamp.0) effects

module _ {N P S : Type 0} (g : Ghosts N P S) where
  -- inputs make this state of the first one of a node
  pub record IsReached (p : P) (s : S) : Type 0 where
    pub inputs : List Input
    pub is : s ≡ (fold (g.step p) (g.first p) inputs).state

  -- the node of a cell is in such a state
  abbrev pub HasReached : CellParts N → Type 0
  HasReached c = IsReached (g.spec c.core.node) (g.state c.core.node)

  -- each node of a life is in such a state, the last barrier that each cell passed has this stamp, and no item came
  -- since
  pub record StandsBehind (stamp : ℕ) (l : NumberedLife N) : Type 0 where
    pub reached : Each HasReached l.life.cells
    pub passed : Each (λ b. b ≡ stamp) (passed_of l.life.cells)
    pub clean : Each IsClean l.life.cells

  -- lives that were loaded with these messages, and may have made steps since
  pub record AreLoadedWith (msgs : List Msg) (before after : List (NumberedLife N)) : Type 0 where
    pub plans : plans_in g after ≡ plans_from g msgs before
    pub specs : specs_in g after ≡ specs_in g before
    pub lives : Each (IsLifeIn g) after

  -- one life was, and may have made steps since
  pub record IsLoadedWith (msgs : List Msg) (before after : NumberedLife N) : Type 0 where
    pub plans : plans_of g after.life.cells ≡ map (plan_now g msgs) before.life.cells
    pub specs : specs_of g after.life.cells ≡ specs_of g before.life.cells
    pub life : IsLifeIn g after

  -- A life is at rest behind a barrier: it began there and was not loaded since, or it was loaded up to there and has
  -- handled all.
  pub data RestsBehind (upto : Stamp) (l : NumberedLife N) : Type 0 where
    began_there : (plan : PlanValue N) → IsLifeBehind g upto.0 plan l → IsLifeIn g l → RestsBehind upto l
    came_there : (stamp : ℕ) (points : List PointValue) (marks : List Stamp) (before : NumberedLife N) → stamp < upto.0
        → length points ≤ upto.0 → AreMarksOf points upto marks
        → StandsBehind stamp before → IsLoadedWith (load_messages points upto marks) before l → IsResting l
        → RestsBehind upto l

  -- the same nodes with the same parents are planned as a life has
  pub record IsPlannedAgain (l : NumberedLife N) (plan : PlanValue N) : Type 0 where
    pub specs : map g.spec plan.nodes ≡ specs_of g l.life.cells
    pub parents : plan.parents ≡ parents_of l.life.cells

  -- the nodes of a life are those of another one, with the same parents and in the same states
  pub record IsAlike (l other : NumberedLife N) : Type 0 where
    pub specs : specs_of g other.life.cells ≡ specs_of g l.life.cells
    pub parents : parents_of other.life.cells ≡ parents_of l.life.cells
    pub states : map (λ c. g.state c.core.node) other.life.cells ≡ map (λ c. g.state c.core.node) l.life.cells

  -- A life did what another one did since the load: it is where that one is, each cell has the effects of the other
  -- one's, and each edge carried what the other one's carried.
  pub record DidTheSame (l other : NumberedLife N) : Type 0 where
    pub alike : IsAlike l other
    pub effects : effects_since other.life.cells ≡ effects_since l.life.cells
    pub edges : (j k : ℕ) (e f : InEdge) → in_of l.life.cells j k ≡ Some e → in_of other.life.cells j k ≡ Some f
        → received f.head ≡ received e.head

  -- A life did what another one did behind a barrier: it is where that one is, each cell has the effects of the other
  -- one's with stamps above the barrier, and each edge carried what the other one's carried behind it.
  pub record DidTheRest (upto : Stamp) (whole rest : NumberedLife N) : Type 0 where
    pub alike : IsAlike whole rest
    pub effects : effects_since rest.life.cells ≡ map (effects_behind upto) (effects_since whole.life.cells)
    pub edges : (j k : ℕ) (e f : InEdge) → in_of whole.life.cells j k ≡ Some e → in_of rest.life.cells j k ≡ Some f
        → received f.head ≡ msgs_behind upto (received e.head)

  -- and so each life of a net
  pub record DidTheRestOf (upto : Stamp) (whole rest : List (NumberedLife N)) : Type 0 where
    pub lives : AllZip (DidTheRest upto) whole rest
    pub effects : effects_in rest ≡ effects_behind upto (effects_in whole)
