-- The net that carried the points of a command.
use Rattle.std.specs.Prelude.{◌≡◌, ℕ, List, [], Option, None, Some}
use Rattle.kap_base.specs.Points.{PointValue}
use Rattle.node_core.specs.declared.node.Node.{Ghosts}
use Rattle.node_set.specs.Tasks.{Planned}
use Rattle.flow_core.specs.Carried.{HasCarried}
use Rattle.flow_core.specs.Nets.{NetValue}
use Rattle.recording_file.specs.Recording.{reading_of}
use Rattle.sample_points.specs.Samples.{samples}
use Rattle.task_run.specs.Graphs.{Placed}
use Rattle.tick_compile.specs.declared.tasks.Task.{Task}
use Rattle.kap_server.specs.Pairs.{AreTasks}
use Rattle.kap_server.specs.Runs.{lives_from}
use Rattle.kap_server.specs.Words.{Pair}

module _ {N P S : Type 0} (g : Ghosts N P S) where
  -- there is a net of these lives, at rest, and each of its edges has carried, barriers aside, what its parent gives
  -- out for these points
  pub record HoldsNet (lives : List (List (Placed P))) (points : List PointValue)
      (ran : Option (NetValue N)) : Type 0 where
    pub net : NetValue N
    pub is : ran ≡ Some net
    pub carried : HasCarried g lives points net

  -- for some points
  pub record HoldsSomeNet (lives : List (List (Placed P))) (ran : Option (NetValue N)) : Type 0 where
    pub points : List PointValue
    pub holds : HoldsNet lives points ran

  -- for the points of the recording that the input gives, where it tells its bytes
  abbrev pub HoldsNetOf : List (List (Placed P)) → Option (List ℕ) → Option (NetValue N) → Type 0
  HoldsNetOf lives None ran = HoldsSomeNet lives ran
  HoldsNetOf lives (Some input) ran = HoldsNet lives (reading_of input).points ran

  -- the pairs are tasks, and there is such a net of their lives, which are numbered from 1, for the points that the
  -- input gives
  pub record HoldsNetOfTasks (planned : Planned P) (pairs : List Pair) (input : Option (List ℕ))
      (ran : Option (NetValue N)) : Type 0 where
    pub tasks : List Task
    pub are : AreTasks [] pairs tasks
    pub holds : HoldsNetOf (lives_from planned 1 pairs tasks) input ran

  -- the same for the first n points of the sample recording
  pub record HoldsNetOfSamples (planned : Planned P) (pairs : List Pair) (n : ℕ)
      (ran : Option (NetValue N)) : Type 0 where
    pub tasks : List Task
    pub are : AreTasks [] pairs tasks
    pub holds : HoldsNet (lives_from planned 1 pairs tasks) (samples n) ran
