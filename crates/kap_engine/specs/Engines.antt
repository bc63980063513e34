-- An engine on its disk.
use Rattle.std.specs.Prelude.{◌≡◌, Bool, false, List, length}
use Rattle.kap_io.specs.Disk.{Image}
use Rattle.node_core.specs.declared.node.Node.{Ghosts}
use Rattle.node_set.specs.Tasks.{Planned}
use Rattle.store_kept.specs.Keeping.{AreValid}
use Rattle.store_records.specs.Histories.{held}
use Rattle.store_records.specs.declared.rec.Rec.{Rec}
use Rattle.topic_core.specs.declared.transition.Transition.{Transition}
use Rattle.topic_store.specs.Stores.{IsOn, StoreState}
use Rattle.engine_runs.specs.Running.{HasRun, RunValue}
use Rattle.engine_store.specs.Adding.{HasAdded}
use Rattle.engine_store.specs.Good.{IsFull}

-- a store, the lives of its tasks as they run, the transitions that the last change stored, and whether a call failed
-- in the middle
pub record EngineValue (N : Type 0) : Type 0 where
  pub store : StoreState
  pub run : RunValue N
  pub stored : List Transition
  pub spent : Bool

-- it can go on: so can its store and its lives
pub record CanWork {N : Type 0} (e : EngineValue N) : Type 0 where
  pub usable : e.store.log.spent ≡ false
  pub unspent : e.run.spent ≡ false
  pub valid : AreValid e.store.kept

module _ {N P S : Type 0} (g : Ghosts N P S) (planned : Planned P) where
  -- The engine stands over these records: its store has them on its disk, and all transitions that are due; its lives
  -- have run on all points, those that have ended are gone, and those that begin behind them are there. Each life has
  -- its number.
  pub record IsEngine (rs : List Rec) (seen : Image) (images : Image → Type 0) (e : EngineValue N) : Type 0 where
    pub on : IsOn rs seen images e.store
    pub full : IsFull g planned rs
    pub runs : HasRun g planned (held rs).lives full.good.tasks (held rs).points 1 e.run
    pub numbered : length e.run.names ≡ length (held rs).lives

  -- it stands over records that hold what these do, and transitions more
  pub record IsEngineBehind (rs : List Rec) (seen : Image) (images : Image → Type 0) (e : EngineValue N) : Type 0 where
    pub records : List Rec
    pub more : List Transition
    pub added : HasAdded rs more records
    pub engine : IsEngine records seen images e
