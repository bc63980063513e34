-- A store that is right: its scripts are those of tasks, its last snapshot is that of its points, and its transitions
-- are the first of those that its lives make of its points.
use Rattle.std.specs.Prelude.{◌≡◌, ◌⊎◌, List}
use Rattle.kap_io.specs.Disk.{Image}
use Rattle.node_core.specs.declared.node.Node.{Ghosts}
use Rattle.node_set.specs.Tasks.{Planned}
use Rattle.store_records.specs.Histories.{held}
use Rattle.store_records.specs.declared.rec.Rec.{Rec}
use Rattle.task_run.specs.Graphs.{Placed}
use Rattle.tick_compile.specs.declared.tasks.Task.{Task}
use Rattle.topic_core.specs.declared.transition.Transition.{Transition}
use Rattle.topic_store.specs.Stores.{Stands}
use Rattle.engine_runs.specs.Scripts.{AreTasksOf, graphs_from}
use Rattle.engine_runs.specs.Whole.{IsConsistent, due_of}
use Rattle.engine_store.specs.Adding.{HasAdded}
use Rattle.engine_store.specs.Asking.{AreScripts}

module _ {N P S : Type 0} (g : Ghosts N P S) (planned : Planned P) where
  -- the nodes of the lives of a store, whose scripts are those of these tasks
  abbrev pub graphs_in : List Rec → List Task → List (List (Placed P))
  graphs_in rs tasks = graphs_from planned 1 (held rs).lives tasks

  -- The scripts are those of tasks, and the store is consistent by those of its lives.
  pub record IsGood (rs : List Rec) : Type 0 where
    pub scripts : AreScripts (held rs).tasks (held rs).lives
    pub tasks : List Task
    pub are : AreTasksOf (held rs).lives tasks
    pub consistent : IsConsistent g (graphs_in rs tasks) rs

  -- and it has all transitions that are due
  pub record IsFull (rs : List Rec) : Type 0 where
    pub good : IsGood rs
    pub all : due_of g.answer (graphs_in rs good.tasks) (held rs) ≡ (held rs).transitions

  -- The files stand for a right store that holds what these records do, and transitions more.
  pub record StandsGood (rs : List Rec) (files : Image) : Type 0 where
    pub records : List Rec
    pub more : List Transition
    pub added : HasAdded rs more records
    pub stands : Stands records files
    pub good : IsGood records

  -- an image is as it was, or stands for such a store
  abbrev pub stays_or_good : List Rec → Image → Image → Type 0
  stays_or_good rs old files = (files ≡ old) ⊎ StandsGood rs files
