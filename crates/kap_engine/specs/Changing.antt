-- What a change of a task leaves.
use Rattle.std.specs.Prelude.{◌≡◌, ◌⊎◌, ℕ, ◌+◌, ◌<◌, ◌≤◌, ⊤, Bool, true, false, List, [], ◌∷◌, ◌++◌, Option, None, Some, length}
use Rattle.kap_io.specs.Disk.{Image}
use Rattle.kap_io.specs.declared.disk.Part.{Part}
use Rattle.kap_base.specs.Points.{PointValue}
use Rattle.kap_base.specs.declared.limits.TheConstants.{TASK_LIMIT}
use Rattle.effect_text.specs.declared.names.TaskNames.{TaskNames}
use Rattle.life_effects.specs.Effects.{LivesFit}
use Rattle.node_core.specs.declared.node.Node.{Ghosts}
use Rattle.node_set.specs.Tasks.{Planned}
use Rattle.store_records.specs.Held.{has_task, task_of}
use Rattle.store_records.specs.declared.rec.Rec.{Rec}
use Rattle.store_records.specs.declared.rec.Rec.TheVariants as kinds
use Rattle.store_records.specs.declared.task.Life.{Life}
use Rattle.store_records.specs.declared.task.StoredTask.{StoredTask}
use Rattle.task_run.specs.Plans.{IsPlan, PlanValue}
use Rattle.tick_compile.specs.Scripts.{Refuses}
use Rattle.tick_compile.specs.Tasks.{refusal_in}
use Rattle.tick_compile.specs.declared.script_fault.ScriptFault.{ScriptFault}
use Rattle.tick_compile.specs.declared.script_fault.ScriptFault.TheVariants as scripts
use Rattle.tick_compile.specs.declared.tasks.Task.{Task}
use Rattle.topic_store.specs.Stores.{Stands}
use Rattle.engine_runs.specs.Faults.{IsRefused}
use Rattle.engine_runs.specs.Running.{HasRun, RunValue}
use Rattle.engine_runs.specs.Scripts.{AreTasksOf, IsPlanned, IsTaskOf}
use Rattle.engine_store.specs.Asking.{IsScript}
use Rattle.engine_store.specs.Good.{IsFull}
use Rattle.engine_store.specs.declared.fault.EngineFault.{EngineFault}
use Rattle.engine_store.specs.declared.fault.EngineFault.TheVariants.{DiskFault, Exists, NoMemory, NoTask, NotStore, Script, TooManyTasks}

module _ {N P S : Type 0} (g : Ghosts N P S) (planned : Planned P) where
  -- the files stand for these records, which are those of a store that has all transitions
  pub record StandsFull (rs : List Rec) (files : Image) : Type 0 where
    pub stands : Stands rs files
    pub full : IsFull g planned rs

  -- they stand for these, or for one record more
  abbrev pub stands_full_before_or_after : List Rec → Rec → Image → Image → Type 0
  stands_full_before_or_after rs r old files = StandsFull rs files ⊎ StandsFull (rs ++ r ∷ []) files

  -- ---- the life that begins with a change

  -- it was planned as the next one behind so many
  pub record IsNext (begun : ℕ) (life : Life) (next : TaskNames × PlanValue N) : Type 0 where
    pub planned_is : IsPlanned planned g.spec g.state g.first (begun + 1) life next
    pub plan : IsPlan g.spec g.ports g.life g.number next.1

  -- just the lives that begin were planned: one, or none
  abbrev pub AreNext : ℕ → List Life → Option (TaskNames × PlanValue N) → Type 0
  AreNext begun [] None = ⊤
  AreNext begun (life ∷ []) (Some next) = IsNext begun life next
  AreNext begun lives next = ⊥

  -- behind lives that have run on all points so far the life has begun that was planned
  abbrev pub BeginsAs : RunValue N → RunValue N → TaskNames × PlanValue N → Type 0
  BeginsAs run run' next =
      (lives : List Life) (tasks : List Task) (points : List PointValue) (life : Life) (task : Task)
      → AreTasksOf lives tasks → IsTaskOf life task → life.first ≡ length points + 1 → life.last ≡ None
      → IsPlanned planned g.spec g.state g.first (length run.names + 1) life next
      → IsPlan g.spec g.ports g.life g.number next.1
      → length run.names ≡ length lives → LivesFit (length points) lives
      → HasRun g planned lives tasks points 1 run
      → HasRun g planned (lives ++ life ∷ []) (tasks ++ task ∷ []) points 1 run'

  -- the life that was planned has begun, and has its names; where none was, nothing has changed
  abbrev pub HasBegun : RunValue N → RunValue N → Option (TaskNames × PlanValue N) → Type 0
  HasBegun run run' None = run' ≡ run
  HasBegun run run' (Some next) = BeginsAs run run' next × (length run'.names ≡ length run.names + 1)

-- ---- records that change tasks

-- the record is one
abbrev pub ChangesTask : Rec → Type 0
ChangesTask (kinds.Batch db rp points) = ⊥
ChangesTask (kinds.Trans transitions) = ⊥
ChangesTask (kinds.Snap points trans states) = ⊥
ChangesTask r = ⊤

-- a script that it defines is that of a task
abbrev pub DefinesScript : Rec → Type 0
DefinesScript (kinds.Define id script enabled) = IsScript script
DefinesScript r = ⊤

-- the record that deletes a task, or that disables it
abbrev pub ending : Bool → List ℕ → Rec
ending true id = kinds.Delete id
ending false id = kinds.Disable id

-- where a record can't be added, or the life that begins with it doesn't run, memory ran out or the disk failed
abbrev pub IsFailure : EngineFault → Type 0
IsFailure DiskFault = ⊤
IsFailure NoMemory = ⊤
IsFailure fault = ⊥

-- ---- a task that can be defined

-- the script is that of a task, no task has the id, and there is room for one more
pub record CanBeDefined (tasks : List StoredTask) (id text : List ℕ) : Type 0 where
  pub script : IsScript text
  pub free : has_task id tasks ≡ false
  pub room : length tasks < TASK_LIMIT

-- ---- why a task isn't defined

-- Why no task of this id is defined by this script, in this order: the script is none of a task, a task has the id, or
-- there are as many as may be; the disk failed only where the task could be defined. The text is the last pattern that
-- was refused.
abbrev pub IsWhyNoneDefined : List ℕ → List ℕ → List ℕ → List StoredTask → EngineFault → Type 0
IsWhyNoneDefined refused id script tasks (Script fault) = Refuses (refusal_in fault refused) script fault
IsWhyNoneDefined refused id script tasks Exists = IsScript script × (has_task id tasks ≡ true)
IsWhyNoneDefined refused id script tasks TooManyTasks =
    IsScript script × (has_task id tasks ≡ false) × (TASK_LIMIT ≤ length tasks)
IsWhyNoneDefined refused id script tasks DiskFault = CanBeDefined tasks id script
IsWhyNoneDefined refused id script tasks NoMemory = ⊤
IsWhyNoneDefined refused id script tasks NoTask = ⊥
IsWhyNoneDefined refused id script tasks (NotStore part offset) = ⊥

-- ---- why a task isn't enabled

-- what the fault of a script is that the record at this place of the log defined
abbrev pub fault_at : Part → ℕ → ScriptFault → EngineFault
fault_at part offset scripts.NoMemory = NoMemory
fault_at part offset fault = NotStore part offset

-- the script of a task that isn't enabled was refused in the call, which the record at this place of the log defined
pub record IsRefusedAgain (before after : ℕ) (refused : List ℕ) (found : Option StoredTask) (offset : ℕ) : Type 0 where
  pub task : StoredTask
  pub is : found ≡ Some task
  pub disabled : task.enabled ≡ false
  pub place : offset ≡ task.define_at
  pub why : IsRefused before after refused task.script

-- why the life of a task isn't planned: its script is refused in the call, or memory ran out
abbrev pub IsWhyNotPlanned : ℕ → ℕ → List ℕ → Part → Option StoredTask → EngineFault → Type 0
IsWhyNotPlanned before after refused log found (NotStore part offset) =
    (part ≡ log) × IsRefusedAgain before after refused found offset
IsWhyNotPlanned before after refused log found NoMemory = ⊤
IsWhyNotPlanned before after refused log found fault = ⊥

-- Why no task of this id is enabled: none has it, or its script is refused in the call. The disk failed only where one
-- has it.
abbrev pub IsWhyNoneEnabled : ℕ → ℕ → List ℕ → Part → List ℕ → List StoredTask → EngineFault → Type 0
IsWhyNoneEnabled before after refused log id tasks NoTask = has_task id tasks ≡ false
IsWhyNoneEnabled before after refused log id tasks (NotStore part offset) =
    (part ≡ log) × IsRefusedAgain before after refused (task_of id tasks) offset
IsWhyNoneEnabled before after refused log id tasks DiskFault = has_task id tasks ≡ true
IsWhyNoneEnabled before after refused log id tasks NoMemory = ⊤
IsWhyNoneEnabled before after refused log id tasks fault = ⊥

-- Why no task of this id is disabled or deleted: none has it. The disk failed only where one has it.
abbrev pub IsWhyNoneEnded : List ℕ → List StoredTask → EngineFault → Type 0
IsWhyNoneEnded id tasks NoTask = has_task id tasks ≡ false
IsWhyNoneEnded id tasks DiskFault = has_task id tasks ≡ true
IsWhyNoneEnded id tasks NoMemory = ⊤
IsWhyNoneEnded id tasks fault = ⊥

-- a refusal of these kinds changes nothing
abbrev pub IsRefusal : EngineFault → Type 0
IsRefusal DiskFault = ⊥
IsRefusal NoMemory = ⊥
IsRefusal fault = ⊤
