-- What stands after a task of a store was defined, or changed.
use Rattle.std.specs.Prelude.{◌≡◌, ◌⊎◌, ⊤, ℕ, ◌<◌, ◌≤◌, Bool, true, false, not, List, [], ◌∷◌, ◌++◌, length, Option, IfSome}
use Rattle.kap_base.specs.Words.{HasRisen}
use Rattle.kap_base.specs.declared.limits.TheConstants.{SCRIPT_LIMIT, TASK_LIMIT}
use Rattle.kap_io.specs.Disk.{Image}
use Rattle.kap_io.specs.Moments.{Moments}
use Rattle.lambda_types.specs.Faults.{Refusal}
use Rattle.node_core.specs.declared.node.Node.{Ghosts}
use Rattle.node_set.specs.Tasks.{Planned}
use Rattle.store_records.specs.Held.{has_task, task_of}
use Rattle.store_records.specs.Histories.{held}
use Rattle.store_records.specs.declared.rec.Rec.{Rec}
use Rattle.store_records.specs.declared.rec.Rec.TheVariants as kinds
use Rattle.tick_compile.specs.Scripts.{Accepts, Refuses}
use Rattle.tick_compile.specs.Tasks.{is_refusal, refusal_in}
use Rattle.tick_compile.specs.declared.tasks.Task.{Task}
use Rattle.topic_core.specs.declared.transition.Transition.{Transition}
use Rattle.topic_store.specs.Stores.{IsNamed, Stands}
use Rattle.engine_store.specs.Adding.{HasAdded}
use Rattle.engine_store.specs.Asking.{IsScript}
use Rattle.engine_store.specs.Faults.{IsNoGood}
use Rattle.engine_store.specs.Good.{IsFull, IsGood, stays_or_good}
use Rattle.kap_engine.specs.Changing.{IsRefusedAgain}
use Rattle.kap_io.specs.declared.disk.Part.{Part}
use Rattle.kap_server.specs.declared.status.Status.{Status}
use Rattle.kap_server.specs.declared.status.Status.TheVariants.{Ok, Usage, Script, Line, Truncated, NotStore, NoTask, Exists, TooManyTasks, TooLong, NoMemory, ReadFault, WriteFault, DiskFault}
use Rattle.kap_server.specs.declared.words.Change.{Change}
use Rattle.kap_server.specs.declared.words.Change.TheVariants.{Enable, Disable, Delete}
use Rattle.kap_server.specs.Listing.{AreAsked, LeavesFull}
use Rattle.kap_server.specs.ReadingIn.{IsAll, IsLong, IsShort, ReadsFew}

-- the record that a change of a task with this id is
abbrev pub record_of : Change → List ℕ → Rec
record_of Enable id = kinds.Enable id
record_of Disable id = kinds.Disable id
record_of Delete id = kinds.Delete id

-- ---- what is read first

-- the text is no longer than a script may be, and is that of a task
abbrev pub IsTaskScript : List ℕ → Type 0
IsTaskScript text = IsShort text × IsScript text

-- By the status, where `refused` is the pattern that was refused last, and s and t are what was left of the input
-- before and after a definition: it gave the script of a task; or a text that has this fault; or more than a script may
-- have; or it couldn't be read to its end.
abbrev pub ReadsScript : List ℕ → Option (List ℕ) → Option (List ℕ) → Status → Type 0
ReadsScript refused s t Ok = IfSome s IsTaskScript
ReadsScript refused s t Usage = ⊥
ReadsScript refused s t (Script fault) = IfSome s (λ text. IsShort text × Refuses (refusal_in fault refused) text fault)
ReadsScript refused s t (Line n fault) = ⊥
ReadsScript refused s t (Truncated n) = ⊥
ReadsScript refused s t (NotStore part offset) = IfSome s IsTaskScript
ReadsScript refused s t NoTask = ⊥
ReadsScript refused s t Exists = IfSome s IsTaskScript
ReadsScript refused s t TooManyTasks = IfSome s IsTaskScript
ReadsScript refused s t TooLong = IsLong s
ReadsScript refused s t NoMemory = ⊤
ReadsScript refused s t ReadFault = ReadsFew s t
ReadsScript refused s t WriteFault = ⊥
ReadsScript refused s t DiskFault = IfSome s IsTaskScript

-- why such a text is none of a task, where `refused` is the pattern that was refused last
abbrev pub IsScriptFault : List ℕ → List ℕ → Status → Type 0
IsScriptFault refused text (Script fault) = Refuses (refusal_in fault refused) text fault
IsScriptFault refused text NoMemory = ⊤
IsScriptFault refused text other = ⊥

-- how a change of a task can end, on any disk
abbrev pub EndsChange : Status → Type 0
EndsChange Ok = ⊤
EndsChange (NotStore part offset) = ⊤
EndsChange NoTask = ⊤
EndsChange NoMemory = ⊤
EndsChange DiskFault = ⊤
EndsChange other = ⊥

-- how a definition by the script of a task can end, on any disk
abbrev pub EndsDefinition : List ℕ → List ℕ → Status → Type 0
EndsDefinition refused text Ok = ⊤
EndsDefinition refused text (Script fault) =
    Refuses (refusal_in fault refused) text fault × (is_refusal fault ≡ true)
EndsDefinition refused text (NotStore part offset) = ⊤
EndsDefinition refused text Exists = ⊤
EndsDefinition refused text TooManyTasks = ⊤
EndsDefinition refused text NoMemory = ⊤
EndsDefinition refused text DiskFault = ⊤
EndsDefinition refused text other = ⊥

-- what was read is refused: no store was opened
abbrev pub is_early : Status → Bool
is_early (Script fault) = not (is_refusal fault)
is_early (Line n fault) = true
is_early (Truncated n) = true
is_early TooLong = true
is_early ReadFault = true
is_early other = false

-- a command that reads the input first may end so before it opens a store
abbrev pub EndsReading : Status → Type 0
EndsReading (Script fault) = ⊤
EndsReading (Line n fault) = ⊤
EndsReading TooLong = ⊤
EndsReading ReadFault = ⊤
EndsReading NoMemory = ⊤
EndsReading other = ⊥

-- The status of a definition by this text of a task with this id, behind records of a right store, where this pattern
-- is refused, or none is.
abbrev pub DefinesTo : Option Refusal → List Rec → List ℕ → List ℕ → Status → Type 0
DefinesTo refused rs id text Ok =
    IsShort text × ((task : Task) × Accepts refused text task)
    × (has_task id (held rs).tasks ≡ false) × (length (held rs).tasks < TASK_LIMIT)
DefinesTo refused rs id text (Script fault) = IsShort text × Refuses refused text fault
DefinesTo refused rs id text Exists =
    IsShort text × ((task : Task) × Accepts refused text task) × (has_task id (held rs).tasks ≡ true)
DefinesTo refused rs id text TooManyTasks =
    IsShort text × ((task : Task) × Accepts refused text task)
    × (has_task id (held rs).tasks ≡ false) × (TASK_LIMIT ≤ length (held rs).tasks)
DefinesTo refused rs id text TooLong = SCRIPT_LIMIT < length text
DefinesTo refused rs id text other = ⊥

module _ {N P S : Type 0} (g : Ghosts N P S) (planned : Planned P) where
  -- ---- one record more

  -- The files, and each image that a crash may leave, stand for a right store that holds what these records do, all
  -- transitions that are due, and this record behind them.
  pub record LeavesChanged (rs : List Rec) (r : Rec) (seen : Image) (images : Image → Type 0) : Type 0 where
    pub records : List Rec
    pub more : List Transition
    pub added : HasAdded rs more records
    pub full : IsFull g planned (records ++ r ∷ [])
    pub reads : Stands (records ++ r ∷ []) seen
    pub leaves : (files : Image) → images files → Stands (records ++ r ∷ []) files

  -- the files stand for such a store
  pub record StandsChanged (rs : List Rec) (r : Rec) (files : Image) : Type 0 where
    pub records : List Rec
    pub more : List Transition
    pub added : HasAdded rs more records
    pub full : IsFull g planned (records ++ r ∷ [])
    pub stands : Stands (records ++ r ∷ []) files

  -- An image is as it was, or stands for the right store with a few of the transitions that are due more, or with all and
  -- this record.
  abbrev pub stays_or_changed : List Rec → Rec → Image → Image → Type 0
  stays_or_changed rs r old files = stays_or_good g planned rs old files ⊎ StandsChanged rs r files

  -- ---- by the status

  -- Behind records of a right store: at Ok a task had the id, and the record is there; at NoTask none had it, and but for
  -- the transitions that were missing nothing changed; a place is told only where a pattern was refused, whose count is
  -- before and after.
  abbrev pub ChangedTo : List Rec → List ℕ → Rec → ℕ → ℕ → Image → (Image → Type 0) → Status → Type 0
  ChangedTo rs id r before after seen images Ok = (has_task id (held rs).tasks ≡ true) × LeavesChanged rs r seen images
  ChangedTo rs id r before after seen images NoTask =
      (has_task id (held rs).tasks ≡ false) × LeavesFull g planned rs seen images
  ChangedTo rs id r before after seen images (NotStore part offset) = HasRisen before after
  ChangedTo rs id r before after seen images NoMemory = ⊤
  ChangedTo rs id r before after seen images DiskFault = ⊤
  ChangedTo rs id r before after seen images other = ⊥

  -- The same of a definition by the script of a task: at Ok no task had the id, and there was room; at Exists one had it;
  -- at TooManyTasks none had it, and there was no room. A script is refused there only where a pattern was.
  abbrev pub DefinedTo : List Rec → List ℕ → Rec → ℕ → ℕ → Image → (Image → Type 0) → Status → Type 0
  DefinedTo rs id r before after seen images Ok =
      (has_task id (held rs).tasks ≡ false) × (length (held rs).tasks < TASK_LIMIT) × LeavesChanged rs r seen images
  DefinedTo rs id r before after seen images Exists =
      (has_task id (held rs).tasks ≡ true) × LeavesFull g planned rs seen images
  DefinedTo rs id r before after seen images TooManyTasks =
      (has_task id (held rs).tasks ≡ false) × (TASK_LIMIT ≤ length (held rs).tasks)
      × LeavesFull g planned rs seen images
  DefinedTo rs id r before after seen images (Script fault) =
      HasRisen before after × LeavesFull g planned rs seen images
  DefinedTo rs id r before after seen images (NotStore part offset) = HasRisen before after
  DefinedTo rs id r before after seen images NoMemory = ⊤
  DefinedTo rs id r before after seen images DiskFault = ⊤
  DefinedTo rs id r before after seen images other = ⊥

  -- ---- on a disk

  module _ {D : Type 0} (seen : D → Image) (moment : D → ℕ) (may_leave : D → Image → Type 0)
      (left_since : D → ℕ → Image → Type 0) where
    -- a task of a right store was changed, as the status says, and so each image at each moment
    pub record Changes (rs : List Rec) (id : List ℕ) (r : Rec) (before after : ℕ) (old new : D)
        (result : Status) : Type 0 where
      pub ends : ChangedTo rs id r before after (seen new) (may_leave new) result
      pub any_moment : Moments moment may_leave left_since old new (stays_or_changed rs r)

    -- the same of a task that was defined by the script that the input gives, where s is what was left of it before
    pub record Defines (rs : List Rec) (id : List ℕ) (s : Option (List ℕ)) (before after : ℕ) (old new : D)
        (result : Status) : Type 0 where
      pub script : List ℕ
      pub all : IsAll s script
      pub is : IsTaskScript script
      pub ends : DefinedTo rs id (kinds.Define id script false) before after (seen new) (may_leave new) result
      pub any_moment : Moments moment may_leave left_since old new
          (stays_or_changed rs (kinds.Define id script false))

  -- ---- any files

  module _ (before after : ℕ) (refused : List ℕ) where
    -- The files stand for a store whose scripts are those of tasks. Where it is right, the script of the task with this id,
    -- which isn't enabled, is refused in the call, and the place is that of its record in the log; `now` are the files
    -- behind the call. Where it isn't, somebody else wrote it, and what is told of it isn't known.
    pub record IsRefusedThere (files now : Image) (id : List ℕ) (part : Part) (offset : ℕ) : Type 0 where
      pub asked : AreAsked g planned files
      pub again : IsGood g planned asked.records → IsNamed now part
          × IsRefusedAgain before after refused (task_of id (held asked.records).tasks) offset

    -- By the status, of the files that were opened to change a task: a place is told where they are no such store, and
    -- then nothing changed, or where the task's script is refused.
    abbrev pub OpensToChange : Type 0 → Image → Image → List ℕ → Status → Type 0
    OpensToChange still files now id Ok = AreAsked g planned files
    OpensToChange still files now id NoTask = AreAsked g planned files
    OpensToChange still files now id (NotStore part offset) =
        (IsNoGood g planned before after refused files part offset × still) ⊎ IsRefusedThere files now id part offset
    OpensToChange still files now id NoMemory = ⊤
    OpensToChange still files now id DiskFault = ⊤
    OpensToChange still files now id other = ⊥

    -- The same where something was read first.
    abbrev pub OpensBehind : Type 0 → Image → Status → Type 0
    OpensBehind still files Ok = AreAsked g planned files
    OpensBehind still files Exists = AreAsked g planned files
    OpensBehind still files TooManyTasks = AreAsked g planned files
    OpensBehind still files WriteFault = AreAsked g planned files
    OpensBehind still files (NotStore part offset) = IsNoGood g planned before after refused files part offset × still
    OpensBehind still files (Script fault) = ⊤
    OpensBehind still files (Line n fault) = ⊤
    OpensBehind still files TooLong = ⊤
    OpensBehind still files NoMemory = ⊤
    OpensBehind still files ReadFault = ⊤
    OpensBehind still files DiskFault = ⊤
    OpensBehind still files other = ⊥
