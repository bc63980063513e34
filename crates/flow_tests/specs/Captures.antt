-- Nets that were stopped at a barrier, and nets that go on there.
use Rattle.std.specs.Prelude.{◌≡◌, ℕ, false, List, [], ◌∷◌, IsPermutation, length}
use Rattle.std.specs.List.{AllByRecursion as Each, AllZip}
use Rattle.kap_base.specs.Points.{PointValue}
use Rattle.kap_base.specs.declared.items.Msg.{Msg}
use Rattle.kap_base.specs.declared.items.Stamp.{Stamp}
use Rattle.node_core.specs.declared.node.Node.{Ghosts}
use Rattle.task_run.specs.Courses.{from_first, later_effects}
use Rattle.task_run.specs.Plans.{PlanValue, graph_of}
use Rattle.flow_core.specs.Done.{HasGathered, effects_in}
use Rattle.flow_core.specs.Making.{AreLivesOf}
use Rattle.flow_core.specs.Messages.{load_messages}
use Rattle.flow_core.specs.Nets.{IsResting, NetValue, NumberedLife, plans_from, plans_in, specs_in}
use Rattle.barrier_snapshot.specs.Barriers.{IsCaptureAt, cells_in}
use Rattle.barrier_snapshot.specs.Restoring.{Restores}
use Rattle.barrier_snapshot.specs.Resuming.{AreLoadedWith, DidTheRestOf, DidTheSame}

module _ {N P S : Type 0} (g : Ghosts N P S) where
  -- lives of a plan were made, and loaded with points and barriers
  pub record IsLoadedNew (plan : PlanValue N) (points : List PointValue) (last : Stamp) (marks : List Stamp)
      (net : NetValue N) : Type 0 where
    pub made : List (NumberedLife N)
    pub are : AreLivesOf g (plan ∷ []) made
    pub plans : plans_in g net.lives ≡ plans_from g (load_messages points last marks) made
    pub specs : specs_in g net.lives ≡ specs_in g made
    pub gathered : HasGathered [] net
    pub there : net.last ≡ last
    pub unspent : net.spent ≡ false

  -- lives of a plan were made, loaded with points and barriers, and captured at one of these
  pub record Stopped (plan : PlanValue N) (points : List PointValue) (last : Stamp) (marks : List Stamp) (upto : Stamp)
      (net : NetValue N) (bytes : List ℕ) : Type 0 where
    pub made : List (NumberedLife N)
    pub are : AreLivesOf g (plan ∷ []) made
    pub loaded : AreLoadedWith g (load_messages points last marks) made net.lives
    pub capture : IsCaptureAt g upto (cells_in net.lives) bytes
    pub gathered : HasGathered [] net
    pub unspent : net.spent ≡ false

  -- lives were loaded with these messages, of which nothing is left to do
  pub record HasRunLoad (msgs : List Msg) (before : List (NumberedLife N)) (net : NetValue N) : Type 0 where
    pub loaded : AreLoadedWith g msgs before net.lives
    pub rest : Each IsResting net.lives
    pub gathered : HasGathered [] net
    pub unspent : net.spent ≡ false

  -- a net went on from bytes with these messages, of which nothing is left to do
  pub record WentOn (plan : PlanValue N) (there : Stamp) (bytes : List ℕ) (msgs : List Msg)
      (net : NetValue N) : Type 0 where
    pub restored : NetValue N
    pub restores : Restores g (plan ∷ []) there bytes restored
    pub ran : HasRunLoad msgs restored.lives net

  -- a net of a plan has done what its nodes do for points, and another one did what it did behind a barrier
  pub record RanBoth (plan : PlanValue N) (points : List PointValue) (mark : Stamp) (net other : NetValue N) : Type 0 where
    pub behind : DidTheRestOf g mark net.lives other.lives
    pub gathered : HasGathered [] net
    pub gathered_too : HasGathered [] other
    pub did : IsPermutation (effects_in net.lives)
        (later_effects g.answer 0 (length points) (from_first points (graph_of g.spec plan ∷ [])))
    pub unspent : net.spent ≡ false
    pub unspent_too : other.spent ≡ false

  -- two nets did the same since their loads
  pub record RanAlike (net other : NetValue N) : Type 0 where
    pub same : AllZip (DidTheSame g) net.lives other.lives
    pub gathered : HasGathered [] net
    pub gathered_too : HasGathered [] other
    pub unspent : net.spent ≡ false
    pub unspent_too : other.spent ≡ false
