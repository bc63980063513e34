-- Why no engine is made.
use Rattle.std.specs.Prelude.{◌≡◌, ◌⊎◌, ℕ, ◌≤◌, ⊤, false, List, Result, map, IsErrOf}
use Rattle.std.specs.List.{list_any}
use Rattle.kap_base.specs.Words.{HasRisen}
use Rattle.kap_io.specs.Disk.{Image}
use Rattle.kap_io.specs.declared.disk.Part.{Part}
use Rattle.barrier_snapshot.specs.Captures.{IsCapture}
use Rattle.node_core.specs.declared.node.Node.{Ghosts}
use Rattle.node_set.specs.Tasks.{Planned}
use Rattle.store_records.specs.Held.{is_open}
use Rattle.store_records.specs.Histories.{end_of, held}
use Rattle.store_records.specs.declared.rec.Rec.{Rec}
use Rattle.tick_compile.specs.declared.script_fault.ScriptFault.{ScriptFault}
use Rattle.tick_compile.specs.declared.script_fault.ScriptFault.TheVariants as scripts
use Rattle.tick_compile.specs.declared.tasks.Task.{Task}
use Rattle.topic_store.specs.Snapshots.{LastSnap, is_snap}
use Rattle.topic_store.specs.Stores.{IsNamed, IsNoStore, Stands}
use Rattle.topic_store.specs.declared.fault.StoreFault.{StoreFault}
use Rattle.topic_store.specs.declared.fault.StoreFault.TheVariants as stores
use Rattle.engine_runs.specs.Scripts.{AreTasksOf, node_specs}
use Rattle.engine_runs.specs.Spans.{picked}
use Rattle.engine_runs.specs.declared.fault.RunFault.{RunFault}
use Rattle.engine_runs.specs.declared.fault.RunFault.TheVariants as runs
use Rattle.engine_store.specs.Asking.{AreScripts, IsFirstRefused}
use Rattle.engine_store.specs.Good.{graphs_in}
use Rattle.engine_store.specs.declared.fault.EngineFault.{EngineFault}
use Rattle.engine_store.specs.declared.fault.EngineFault.TheVariants.{DiskFault, NoMemory, NotStore, Script}

-- what a fault of the store is for an engine: no record that it adds is too long, unless memory ran out
abbrev pub store_fault : StoreFault → EngineFault
store_fault (stores.NotStore part offset) = NotStore part offset
store_fault stores.DiskFault = DiskFault
store_fault stores.Long = NoMemory
store_fault stores.NoMemory = NoMemory

-- what a fault of its lives is, where the log is this part and the last snapshot has its gate at this offset
abbrev pub run_fault : Part → ℕ → RunFault → EngineFault
run_fault part snap (runs.Script at) = NotStore part at
run_fault part snap runs.States = NotStore part snap
run_fault part snap runs.NoMemory = NoMemory

-- what the fault of a script is for whoever wants it to be a task's
abbrev pub compile_fault : ScriptFault → EngineFault
compile_fault scripts.NoMemory = NoMemory
compile_fault fault = Script fault

-- a store isn't opened for one of these
abbrev pub IsOfOpening : EngineFault → Type 0
IsOfOpening (NotStore part offset) = ⊤
IsOfOpening DiskFault = ⊤
IsOfOpening NoMemory = ⊤
IsOfOpening fault = ⊥

-- what a call answers: a fault of the disk only where its count rose
pub record EngineCause {T : Type 0} (before now : ℕ) (result : Result T EngineFault) : Type 0 where
  pub later : before ≤ now
  pub failed : IsErrOf result DiskFault → HasRisen before now

module _ {N P S : Type 0} (g : Ghosts N P S) (planned : Planned P) where
  -- the bytes of a snapshot hold these states, of the nodes of the lives that were open there
  abbrev pub HoldsStates : (rs : List Rec) → LastSnap rs → List Task → List S → Type 0
  HoldsStates rs snap tasks states =
      IsCapture g.fits g.spell
      (node_specs (picked (map is_open (held snap.before).lives) (graphs_in g planned rs tasks)))
      states snap.states

  -- The states of the last snapshot, where there is one, are states of the nodes of the lives that were open there.
  abbrev pub HasStates : List Rec → Type 0
  HasStates rs =
      (list_any is_snap rs ≡ false)
      ⊎ ((snap : LastSnap rs)
      × ((tasks : List Task) → AreTasksOf (held rs).lives tasks → (states : List S)
      × HoldsStates rs snap tasks states))

  -- What is asked of a store: its scripts are those of tasks, and the states of its last snapshot are those of lives.
  pub record IsAsked (rs : List Rec) : Type 0 where
    pub scripts : AreScripts (held rs).tasks (held rs).lives
    pub states : HasStates rs

  -- The states of the last snapshot, whose gate stands at this offset, are no states of these nodes.
  pub record HasOtherStates (rs : List Rec) (offset : ℕ) : Type 0 where
    pub scripts : AreScripts (held rs).tasks (held rs).lives
    pub snap : LastSnap rs
    pub at : offset ≡ end_of snap.before
    pub none : (tasks : List Task) (states : List S) → AreTasksOf (held rs).lives tasks
        → HoldsStates rs snap tasks states → ⊥

  module _ (before after : ℕ) (refused : List ℕ) where
    -- why the lives of a store don't run: for the first script that is none of a task, or for the last snapshot
    abbrev pub IsWhyNone : List Rec → ℕ → Type 0
    IsWhyNone rs offset =
        IsFirstRefused before after refused (held rs).tasks (held rs).lives offset ⊎ HasOtherStates rs offset

    -- why the files are no right store: they are none, or for its lives
    pub data IsNoGood (files : Image) (part : Part) (offset : ℕ) : Type 0 where
      no_store : IsNoStore files part offset → IsNoGood files part offset
      no_lives : (rs : List Rec) → Stands rs files → IsNamed files part → IsWhyNone rs offset
          → IsNoGood files part offset
