-- The lives of a store, run on its points while an engine is made.
use Rattle.std.specs.Prelude.{◌≡◌, ℕ, List, [], ◌++◌, length}
use Rattle.kap_base.specs.Points.{PointValue}
use Rattle.node_core.specs.declared.node.Node.{Ghosts}
use Rattle.node_set.specs.Tasks.{Planned}
use Rattle.store_records.specs.Histories.{held}
use Rattle.store_records.specs.declared.rec.Rec.{Rec}
use Rattle.tick_compile.specs.declared.tasks.Task.{Task}
use Rattle.topic_core.specs.declared.transition.Transition.{Transition}
use Rattle.engine_runs.specs.Running.{HasRun, RunValue, due_behind}

module _ {N P S : Type 0} (g : Ghosts N P S) (planned : Planned P) (rs : List Rec) (tasks : List Task) where
  -- the lives have run on these points, and none begins or ends at the next n
  abbrev pub HasRunOn : List PointValue → ℕ → RunValue N → Type 0
  HasRunOn points n r = HasRun g planned (held rs).lives tasks points n r

  -- of the transitions on points those that aren't stored
  abbrev pub missing : List PointValue → List Transition
  missing points = due_behind g planned (held rs).lives tasks (length (held rs).transitions) points

  -- The lives have run on the first points, and no transition that these make is missing.
  pub record HasBegun (r : RunValue N) : Type 0 where
    pub points : List PointValue
    pub others : List PointValue
    pub split : (held rs).points ≡ points ++ others
    pub runs : HasRunOn points 0 r
    pub none : missing points ≡ []

  -- They have run on all points, none begins or ends at the next n, and these transitions are missing.
  pub record HasRunAll (n : ℕ) (r : RunValue N) (due : List Transition) : Type 0 where
    pub runs : HasRunOn (held rs).points n r
    pub due_is : due ≡ missing (held rs).points
