-- What stands after a task of a store was defined, or changed.
use Rattle.std.proofs.Common.{◌≡◌, ℕ, ◌<◌, Bool, true, false, List, [], ◌∷◌, ◌++◌, length, Option, None, Some, Err, inl, inr, refl, sym, ap, subst, ◌∙◌, arith}
use Rattle.std.specs.Prelude.{◌≢◌, ◌⊎◌, not, ◌&&◌, nat_le, nat_lt, IfSome, IsErrOf}
use Rattle.std.proofs.lemmas.Bool.Decides.{nat_tests}
use Rattle.kap_base.specs.Texts.{is_task_id}
use Rattle.kap_base.specs.Words.{HasRisen}
use Rattle.kap_base.specs.declared.limits.TheConstants.{SCRIPT_LIMIT, TASK_LIMIT}
use Rattle.kap_base.proofs.TestLaws.{first_of, second_of}
use Rattle.kap_io.specs.Disk.{Image}
use Rattle.kap_io.specs.Moments.{Moments, no_call, then_run, weaker}
use Rattle.kap_io.specs.declared.disk.Part.{Part}
use Rattle.lambda_types.specs.Faults.{Refusal}
use Rattle.node_core.specs.declared.node.Node.{Ghosts}
use Rattle.node_set.specs.Tasks.{Planned}
use Rattle.store_records.specs.Held.{Held, MayFollow, after, has_task, nothing, task_of}
use Rattle.store_records.specs.Histories.{Follow, FollowFrom, first_gate, held, held_from, next_gate}
use Rattle.store_records.specs.declared.rec.Rec.{Rec}
use Rattle.store_records.specs.declared.rec.Rec.TheVariants as kinds
use Rattle.store_records.specs.declared.task.StoredTask.{StoredTask}
use Rattle.tick_compile.specs.Scripts.{Accepts, Refuses}
use Rattle.tick_compile.specs.Tasks.{is_refusal, refusal_in}
use Rattle.tick_compile.specs.declared.script_fault.ScriptFault.{ScriptFault}
use Rattle.tick_compile.specs.declared.script_fault.ScriptFault.TheVariants as scripts
use Rattle.tick_compile.specs.declared.tasks.Task.{Task}
use Rattle.topic_store.proofs.Adding.{image_stands}
use Rattle.topic_store.proofs.Found.{seen_stands}
use Rattle.topic_store.specs.Stores.{IsNamed}
use Rattle.engine_store.specs.Asking.{IsScript}
use Rattle.engine_store.specs.Faults.{IsNoGood, IsOfOpening}
use Rattle.engine_store.specs.Good.{IsGood, stays_or_good}
use Rattle.engine_store.specs.declared.fault.EngineFault.{EngineFault}
use Rattle.engine_store.specs.declared.fault.EngineFault.TheVariants as engines
use Rattle.engine_store.proofs.WhyLaws.{refused_rose}
use Rattle.kap_engine.specs.Changing.{IsRefusal, IsRefusedAgain, IsWhyNoneDefined, IsWhyNoneEnabled, IsWhyNoneEnded, StandsFull, stands_full_before_or_after}
use Rattle.kap_engine.specs.Engines.{EngineValue, IsEngine, IsEngineBehind}
use Rattle.kap_engine.proofs.RefusalLaws.{found_script}
use Rattle.kap_server.specs.declared.status.Status.{Status}
use Rattle.kap_server.specs.declared.status.Status.TheVariants as statuses
use Rattle.kap_server.specs.declared.words.Change.{Change}
use Rattle.kap_server.specs.declared.words.Change.TheVariants.{Enable, Disable, Delete}
use Rattle.kap_server.specs.Changing.{ChangedTo, Changes, DefinedTo, EndsChange, EndsDefinition, EndsReading, IsScriptFault, IsTaskScript, LeavesChanged, OpensBehind, OpensToChange, ReadsScript, is_early, record_of, stays_or_changed}
use Rattle.kap_server.specs.Listing.{AreAsked, LeavesFull}
use Rattle.kap_server.specs.ReadingIn.{IsAll, IsShort}
use Rattle.kap_server.specs.Readying.{is_pattern_refused}
use Rattle.kap_server.specs.Statuses.{status_of_engine, status_of_script}
use Rattle.kap_server.proofs.ListLaws.{of_opening}

-- each text that one script answers is refused for no fault
abbrev pub Apart : Type 0
Apart = (refused : Option Refusal) (text : List ℕ) (task : Task) (fault : ScriptFault) → Accepts refused text task → Refuses refused text fault → ⊥

-- what holds of all that the input gave holds of what was left of it, where it tells that
pub told_of : (Q : List ℕ → Type 0) (s : Option (List ℕ)) (text : List ℕ) → IsAll s text → Q text → IfSome s Q
told_of Q None text all q = tt
told_of Q (Some input) text all q = subst Q (sym all) q

-- ---- the last record

last-from : (h : Held) (at : ℕ) (rs : List Rec) (r : Rec) → FollowFrom h at (rs ++ r ∷ []) → MayFollow (held_from h at rs) r
last-from h at [] r follow = follow.1
last-from h at (q ∷ rs) r follow = last-from (after h at q) (next_gate at q) rs r follow.2

-- the last of the records of a store may follow those before it
pub last_may : (rs : List Rec) (r : Rec) → Follow (rs ++ r ∷ []) → MayFollow (held rs) r
last_may rs r follow = last-from nothing first_gate rs r follow

-- where a task was changed it is there
pub task_there : (change : Change) (id : List ℕ) (h : Held) → MayFollow h (record_of change id) → has_task id h.tasks ≡ true
task_there Enable id h may = may
task_there Disable id h may = may
task_there Delete id h may = may

not-true : (b : Bool) → not b ≡ true → b ≡ false
not-true true e = absurd cc
not-true false e = refl

less : (n m : ℕ) → nat_lt n m ≡ true → n < m
less n m e = grind (arith, nat_tests)

-- where a task was defined its id was free, and there was room
pub task_new : (id script : List ℕ) (enabled : Bool) (h : Held) → MayFollow h (kinds.Define id script enabled) → (has_task id h.tasks ≡ false) × (length h.tasks < TASK_LIMIT)
task_new id script enabled h may =
    let room = nat_lt (length h.tasks) TASK_LIMIT && nat_le (length script) SCRIPT_LIMIT in
    let behind = second_of (is_task_id id) (not (has_task id h.tasks) && room) may in (
      not-true (has_task id h.tasks) (first_of (not (has_task id h.tasks)) room behind),
      less (length h.tasks) TASK_LIMIT (first_of (nat_lt (length h.tasks) TASK_LIMIT) (nat_le (length script) SCRIPT_LIMIT) (second_of (not (has_task id h.tasks)) room behind)),
    )

-- ---- what is left

module _ {N P S : Type 0} (g : Ghosts N P S) (planned : Planned P) (rs : List Rec) where
  module _ {D : Type 0} (seen : D → Image) (moment : D → ℕ) (may_leave : D → Image → Type 0) (left_since : D → ℕ → Image → Type 0) (old mid new : D) (engine : EngineValue N)
      (made : IsEngineBehind g planned rs (seen mid) (may_leave mid) engine) (r : Rec) where
    stood : (a c : Image) → StandsFull g planned made.records c ⊎ StandsFull g planned (made.records ++ r ∷ []) c → stays_or_changed g planned rs r a c
    stood a c (inl f) = inl (inr (record {
      records = made.records;
      more = made.more;
      added = made.added;
      stands = f.stands;
      good = f.full.good;
    }))
    stood a c (inr f) = inr (record {
      records = made.records;
      more = made.more;
      added = made.added;
      full = f.full;
      stands = f.stands;
    })

    -- an opening, and a change behind it
    pub opened_then_changed : Moments moment may_leave left_since old mid (stays_or_good g planned rs) → Moments moment may_leave left_since mid new (stands_full_before_or_after g planned made.records r)
        → Moments moment may_leave left_since old new (stays_or_changed g planned rs r)
    opened_then_changed opened changed = then_run moment may_leave left_since old mid new _ _ _ opened changed
        (λ a b was how. inl how)
        (λ a b c was how left stands. stood a c stands)

  -- an opening alone
  pub opened_only : {D : Type 0} (moment : D → ℕ) (may_leave : D → Image → Type 0) (left_since : D → ℕ → Image → Type 0) (old new : D) (r : Rec) → Moments moment may_leave left_since old new (stays_or_good g planned rs)
      → Moments moment may_leave left_since old new (stays_or_changed g planned rs r)
  opened_only moment may_leave left_since old new r opened = weaker moment may_leave left_since old new _ _ opened (λ a b was how. inl how)

  -- the record is there
  pub leaves_changed : (seen-before : Image) (images-before : Image → Type 0) (before after : EngineValue N) (seen : Image) (images : Image → Type 0) (r : Rec)
      → (made : IsEngineBehind g planned rs seen-before images-before before) → IsEngine g planned (made.records ++ r ∷ []) seen images after → LeavesChanged g planned rs r seen images
  leaves_changed seen-before images-before before after seen images r made engine = record {
    records = made.records;
    more = made.more;
    added = made.added;
    full = engine.full;
    reads = seen_stands seen images (made.records ++ r ∷ []) after.store engine.on;
    leaves = image_stands (made.records ++ r ∷ []) seen images after.store engine.on;
  }

  -- the tasks that an engine keeps are those of the records
  pub kept_tasks : (seen : Image) (images : Image → Type 0) (engine : EngineValue N) → (made : IsEngineBehind g planned rs seen images engine) → engine.store.kept.tasks ≡ (held rs).tasks
  kept_tasks seen images engine made = made.engine.on.kept.keeps.tasks ∙ made.added.tasks

  -- a task had the id, and the record is there
  pub change_done : (seen-before : Image) (images-before : Image → Type 0) (engine after : EngineValue N) (seen : Image) (images : Image → Type 0) (change : Change) (id : List ℕ) (before now : ℕ)
      → (made : IsEngineBehind g planned rs seen-before images-before engine) → IsEngine g planned (made.records ++ record_of change id ∷ []) seen images after
      → ChangedTo g planned rs id (record_of change id) before now seen images statuses.Ok
  change_done seen-before images-before engine after seen images change id before now made done = (
    subst (λ (tasks : List StoredTask). has_task id tasks ≡ true) made.added.tasks (task_there change id (held made.records) (last_may made.records (record_of change id) done.on.stored.follow)),
    leaves_changed seen-before images-before engine after seen images (record_of change id) made done,
  )

  -- none had it, there was room, and the record is there
  pub define_done : (seen-before : Image) (images-before : Image → Type 0) (engine after : EngineValue N) (seen : Image) (images : Image → Type 0) (id script : List ℕ) (before now : ℕ)
      → (made : IsEngineBehind g planned rs seen-before images-before engine) → IsEngine g planned (made.records ++ kinds.Define id script false ∷ []) seen images after
      → DefinedTo g planned rs id (kinds.Define id script false) before now seen images statuses.Ok
  define_done seen-before images-before engine after seen images id script before now made done =
      let new = task_new id script false (held made.records) (last_may made.records (kinds.Define id script false) done.on.stored.follow) in (
        subst (λ (tasks : List StoredTask). has_task id tasks ≡ false) made.added.tasks new.0,
        subst (λ (tasks : List StoredTask). length tasks < TASK_LIMIT) made.added.tasks new.1,
        leaves_changed seen-before images-before engine after seen images (kinds.Define id script false) made done,
      )

  -- nothing was opened
  pub nothing_changed : {D : Type 0} (seen : D → Image) (moment : D → ℕ) (may_leave : D → Image → Type 0) (left_since : D → ℕ → Image → Type 0) (disk : D) (id : List ℕ) (r : Rec) (before after : ℕ)
      → Changes g planned seen moment may_leave left_since rs id r before after disk disk statuses.NoMemory
  nothing_changed seen moment may_leave left_since disk id r before after = record {
    ends = tt;
    any_moment = no_call moment may_leave left_since disk (stays_or_changed g planned rs r) (λ c left. inl (inl refl));
  }

  -- and its log is the one that the head names
  pub named_now : (seen : Image) (images : Image → Type 0) (engine : EngineValue N) → IsEngineBehind g planned rs seen images engine → IsNamed seen engine.store.log.part
  named_now seen images engine made = record { run = made.engine.on.run; head = made.engine.on.head; is = made.engine.on.part }

-- ---- why a task isn't changed

module _ {N P S : Type 0} (g : Ghosts N P S) (planned : Planned P) (rs : List Rec) (good : IsGood g planned rs) (apart : Apart) (before after : ℕ) (refused id : List ℕ) (seen : Image) (images : Image → Type 0) where
  pub change_refused : (log : Part) (r : Rec) (fault : EngineFault) → IsWhyNoneEnabled before after refused log id (held rs).tasks fault → (IsRefusal fault → LeavesFull g planned rs seen images)
      → ChangedTo g planned rs id r before after seen images (status_of_engine fault)
  change_refused log r (engines.Script fault) why leaves = absurd why
  change_refused log r engines.NoTask why leaves = (why, leaves tt)
  change_refused log r engines.Exists why leaves = absurd why
  change_refused log r engines.TooManyTasks why leaves = absurd why
  change_refused log r (engines.NotStore part offset) why leaves =
      let again : IsRefusedAgain before after refused (task_of id (held rs).tasks) offset = why.1 in
      refused_rose before after refused again.task.script apart (found_script id (held rs).tasks again.task good.scripts.of_tasks again.is) again.why
  change_refused log r engines.DiskFault why leaves = tt
  change_refused log r engines.NoMemory why leaves = tt

-- ---- why none is defined

plain : (fault : ScriptFault) (text : List ℕ) → is_refusal fault ≡ false → refusal_in fault text ≡ None
plain fault text e = grind arith

-- a text that is a script is refused only for a pattern
pub is_pattern : (apart : Apart) (refused text : List ℕ) (fault : ScriptFault) → IsScript text → Refuses (refusal_in fault refused) text fault → is_refusal fault ≡ true
is_pattern apart refused text fault script why = by (is_refusal fault) refl
  where
    by : (b : Bool) → is_refusal fault ≡ b → is_refusal fault ≡ true
    by true e = e
    by false e = absurd (apart None text script.0 fault script.1 (subst (λ (o : Option Refusal). Refuses o text fault) (plain fault refused e) why))

-- the status of a script's fault
pub script_status : (fault : ScriptFault) → (status_of_script fault ≡ statuses.NoMemory) ⊎ (status_of_script fault ≡ statuses.Script fault)
script_status (scripts.NotUtf8 at) = inr refl
script_status (scripts.Lex fault) = inr refl
script_status (scripts.Parse fault) = inr refl
script_status (scripts.Name fault) = inr refl
script_status (scripts.NoKind at) = inr refl
script_status (scripts.Property at) = inr refl
script_status (scripts.Argument at) = inr refl
script_status (scripts.Handler at) = inr refl
script_status (scripts.Template at fault) = inr refl
script_status (scripts.Lambda fault) = inr refl
script_status (scripts.Graph fault) = inr refl
script_status scripts.NoFrom = inr refl
script_status scripts.NoMemory = inl refl

module _ {N P S : Type 0} (g : Ghosts N P S) (planned : Planned P) (rs : List Rec) (apart : Apart) (before after : ℕ) (refused id script : List ℕ) (seen : Image) (images : Image → Type 0) where
  pub define_refused : (r : Rec) (fault : EngineFault) → IsScript script → IsWhyNoneDefined refused id script (held rs).tasks fault → ((f : ScriptFault) → fault ≡ engines.Script f → is_refusal f ≡ true → HasRisen before after)
      → (IsRefusal fault → LeavesFull g planned rs seen images) → DefinedTo g planned rs id r before after seen images (status_of_engine fault)
  define_refused r (engines.Script fault) is why rose leaves = by (script_status fault)
    where
      by : (status_of_script fault ≡ statuses.NoMemory) ⊎ (status_of_script fault ≡ statuses.Script fault) → DefinedTo g planned rs id r before after seen images (status_of_script fault)
      by (inl e) = subst (λ (s : Status). DefinedTo g planned rs id r before after seen images s) (sym e) tt
      by (inr e) = subst (λ (s : Status). DefinedTo g planned rs id r before after seen images s) (sym e) (rose fault refl (is_pattern apart refused script fault is why), leaves tt)
  define_refused r engines.NoTask is why rose leaves = absurd why
  define_refused r engines.Exists is why rose leaves = (why.1, leaves tt)
  define_refused r engines.TooManyTasks is why rose leaves = (why.1, why.2, leaves tt)
  define_refused r (engines.NotStore part offset) is why rose leaves = absurd why
  define_refused r engines.DiskFault is why rose leaves = tt
  define_refused r engines.NoMemory is why rose leaves = tt

-- ---- what was read

-- a text that is a script is that of a task
pub reads_defined : (refused text : List ℕ) (s t : Option (List ℕ)) (status : Status) → IsAll s text → IsTaskScript text → EndsDefinition refused text status → ReadsScript refused s t status
reads_defined refused text s t statuses.Ok all is ends = told_of IsTaskScript s text all is
reads_defined refused text s t statuses.Usage all is ends = absurd ends
reads_defined refused text s t (statuses.Script fault) all is ends = told_of (λ text. IsShort text × Refuses (refusal_in fault refused) text fault) s text all (is.0, ends.0)
reads_defined refused text s t (statuses.Line n fault) all is ends = absurd ends
reads_defined refused text s t (statuses.Truncated n) all is ends = absurd ends
reads_defined refused text s t (statuses.NotStore part offset) all is ends = told_of IsTaskScript s text all is
reads_defined refused text s t statuses.NoTask all is ends = absurd ends
reads_defined refused text s t statuses.Exists all is ends = told_of IsTaskScript s text all is
reads_defined refused text s t statuses.TooManyTasks all is ends = told_of IsTaskScript s text all is
reads_defined refused text s t statuses.TooLong all is ends = absurd ends
reads_defined refused text s t statuses.NoMemory all is ends = tt
reads_defined refused text s t statuses.ReadFault all is ends = absurd ends
reads_defined refused text s t statuses.WriteFault all is ends = absurd ends
reads_defined refused text s t statuses.DiskFault all is ends = told_of IsTaskScript s text all is

-- one that is none has a fault
pub fault_reads : (refused text : List ℕ) (s t : Option (List ℕ)) (status : Status) → IsAll s text → IsShort text → IsScriptFault refused text status → ReadsScript refused s t status
fault_reads refused text s t statuses.Ok all short why = absurd why
fault_reads refused text s t statuses.Usage all short why = absurd why
fault_reads refused text s t (statuses.Script fault) all short why = told_of (λ text. IsShort text × Refuses (refusal_in fault refused) text fault) s text all (short, why)
fault_reads refused text s t (statuses.Line n fault) all short why = absurd why
fault_reads refused text s t (statuses.Truncated n) all short why = absurd why
fault_reads refused text s t (statuses.NotStore part offset) all short why = absurd why
fault_reads refused text s t statuses.NoTask all short why = absurd why
fault_reads refused text s t statuses.Exists all short why = absurd why
fault_reads refused text s t statuses.TooManyTasks all short why = absurd why
fault_reads refused text s t statuses.TooLong all short why = absurd why
fault_reads refused text s t statuses.NoMemory all short why = tt
fault_reads refused text s t statuses.ReadFault all short why = absurd why
fault_reads refused text s t statuses.WriteFault all short why = absurd why
fault_reads refused text s t statuses.DiskFault all short why = absurd why

-- a status with which no reading ends
pub never_early : (s status : Status) → EndsReading s → (EndsReading status → ⊥) → s ≡ status → ⊥
never_early s status ends none e = none (subst EndsReading e ends)

-- a script's fault is why it is none, unless memory lacked
pub script_fault : (refused text : List ℕ) (fault : ScriptFault) → (fault ≢ scripts.NoMemory → Refuses (refusal_in fault refused) text fault) → IsScriptFault refused text (status_of_script fault)
script_fault refused text (scripts.NotUtf8 at) why = why (λ e. absurd cc)
script_fault refused text (scripts.Lex fault) why = why (λ e. absurd cc)
script_fault refused text (scripts.Parse fault) why = why (λ e. absurd cc)
script_fault refused text (scripts.Name fault) why = why (λ e. absurd cc)
script_fault refused text (scripts.NoKind at) why = why (λ e. absurd cc)
script_fault refused text (scripts.Property at) why = why (λ e. absurd cc)
script_fault refused text (scripts.Argument at) why = why (λ e. absurd cc)
script_fault refused text (scripts.Handler at) why = why (λ e. absurd cc)
script_fault refused text (scripts.Template at fault) why = why (λ e. absurd cc)
script_fault refused text (scripts.Lambda fault) why = why (λ e. absurd cc)
script_fault refused text (scripts.Graph fault) why = why (λ e. absurd cc)
script_fault refused text scripts.NoFrom why = why (λ e. absurd cc)
script_fault refused text scripts.NoMemory why = tt

-- a status of a refused pattern is that of a fault of one
pub script_rose : (before after : ℕ) (fault : ScriptFault) → (is_refusal fault ≡ true → HasRisen before after) → is_pattern_refused (status_of_script fault) ≡ true → HasRisen before after
script_rose before after fault rose told = by (script_status fault)
  where
    by : (status_of_script fault ≡ statuses.NoMemory) ⊎ (status_of_script fault ≡ statuses.Script fault) → HasRisen before after
    by (inl e) = let none : is_pattern_refused statuses.NoMemory ≡ true = ap is_pattern_refused (sym e) ∙ told in absurd cc
    by (inr e) = rose (ap is_pattern_refused (sym e) ∙ told)

pub engine_rose : (before after : ℕ) (fault : EngineFault) → ((f : ScriptFault) → fault ≡ engines.Script f → is_refusal f ≡ true → HasRisen before after) → is_pattern_refused (status_of_engine fault) ≡ true → HasRisen before after
engine_rose before after (engines.Script fault) rose told = script_rose before after fault (rose fault refl) told
engine_rose before after engines.NoTask rose told = absurd cc
engine_rose before after engines.Exists rose told = absurd cc
engine_rose before after engines.TooManyTasks rose told = absurd cc
engine_rose before after (engines.NotStore part offset) rose told = absurd cc
engine_rose before after engines.DiskFault rose told = absurd cc
engine_rose before after engines.NoMemory rose told = absurd cc

-- ---- an opening that fails

pub opening_defines : (refused text : List ℕ) (fault : EngineFault) → IsOfOpening fault → EndsDefinition refused text (status_of_engine fault)
opening_defines refused text fault may = of_opening {T = Unit {0}} (EndsDefinition refused text) fault may (λ part offset is. tt) tt tt

pub opening_changes : (fault : EngineFault) → IsOfOpening fault → EndsChange (status_of_engine fault)
opening_changes fault may = of_opening {T = Unit {0}} EndsChange fault may (λ part offset is. tt) tt tt

-- it is of no pattern
pub opening_pattern : (fault : EngineFault) → IsOfOpening fault → is_pattern_refused (status_of_engine fault) ≡ true → ⊥
opening_pattern (engines.Script fault) may told = may
opening_pattern engines.NoTask may told = may
opening_pattern engines.Exists may told = may
opening_pattern engines.TooManyTasks may told = may
opening_pattern (engines.NotStore part offset) may told = absurd cc
opening_pattern engines.DiskFault may told = absurd cc
opening_pattern engines.NoMemory may told = absurd cc

module _ {N P S : Type 0} (g : Ghosts N P S) (planned : Planned P) (rs : List Rec) (id : List ℕ) (r : Rec) (before after : ℕ) (seen : Image) (images : Image → Type 0) where
  pub none_defined : {T : Type 0} (fault : EngineFault) → IsOfOpening fault → ((part : Part) (offset : ℕ) → IsErrOf {T = T} (Err fault) (engines.NotStore part offset) → HasRisen before after)
      → DefinedTo g planned rs id r before after seen images (status_of_engine fault)
  none_defined fault may rose = of_opening (DefinedTo g planned rs id r before after seen images) fault may rose tt tt

  pub none_changed : {T : Type 0} (fault : EngineFault) → IsOfOpening fault → ((part : Part) (offset : ℕ) → IsErrOf {T = T} (Err fault) (engines.NotStore part offset) → HasRisen before after)
      → ChangedTo g planned rs id r before after seen images (status_of_engine fault)
  none_changed fault may rose = of_opening (ChangedTo g planned rs id r before after seen images) fault may rose tt tt

-- ---- which files were opened

module _ {N P S : Type 0} (g : Ghosts N P S) (planned : Planned P) (before after : ℕ) (refused : List ℕ) (still : Type 0) (files : Image) where
  -- none
  pub opens_early : (status : Status) → EndsReading status → OpensBehind g planned before after refused still files status
  opens_early statuses.Ok ends = absurd ends
  opens_early statuses.Usage ends = absurd ends
  opens_early (statuses.Script fault) ends = tt
  opens_early (statuses.Line n fault) ends = tt
  opens_early (statuses.Truncated n) ends = absurd ends
  opens_early (statuses.NotStore part offset) ends = absurd ends
  opens_early statuses.NoTask ends = absurd ends
  opens_early statuses.Exists ends = absurd ends
  opens_early statuses.TooManyTasks ends = absurd ends
  opens_early statuses.TooLong ends = tt
  opens_early statuses.NoMemory ends = tt
  opens_early statuses.ReadFault ends = tt
  opens_early statuses.WriteFault ends = absurd ends
  opens_early statuses.DiskFault ends = absurd ends

  -- those of no right store
  pub behind_none : {T : Type 0} (fault : EngineFault) → IsOfOpening fault → ((part : Part) (offset : ℕ) → IsErrOf {T = T} (Err fault) (engines.NotStore part offset) → IsNoGood g planned before after refused files part offset × still)
      → OpensBehind g planned before after refused still files (status_of_engine fault)
  behind_none fault may why = of_opening (OpensBehind g planned before after refused still files) fault may why tt tt

  -- or of one, where no task is defined
  pub behind_asked : (last id script : List ℕ) (tasks : List StoredTask) (fault : EngineFault) → IsWhyNoneDefined last id script tasks fault → AreAsked g planned files
      → OpensBehind g planned before after refused still files (status_of_engine fault)
  behind_asked last id script tasks (engines.Script fault) why asked = by (script_status fault)
    where
      by : (status_of_script fault ≡ statuses.NoMemory) ⊎ (status_of_script fault ≡ statuses.Script fault) → OpensBehind g planned before after refused still files (status_of_script fault)
      by (inl e) = subst (OpensBehind g planned before after refused still files) (sym e) tt
      by (inr e) = subst (OpensBehind g planned before after refused still files) (sym e) tt
  behind_asked last id script tasks engines.NoTask why asked = absurd why
  behind_asked last id script tasks engines.Exists why asked = asked
  behind_asked last id script tasks engines.TooManyTasks why asked = asked
  behind_asked last id script tasks (engines.NotStore part offset) why asked = absurd why
  behind_asked last id script tasks engines.DiskFault why asked = tt
  behind_asked last id script tasks engines.NoMemory why asked = tt

  module _ (now : Image) (id : List ℕ) where
    -- the same of a change
    pub change_none : {T : Type 0} (fault : EngineFault) → IsOfOpening fault → ((part : Part) (offset : ℕ) → IsErrOf {T = T} (Err fault) (engines.NotStore part offset) → IsNoGood g planned before after refused files part offset × still)
        → OpensToChange g planned before after refused still files now id (status_of_engine fault)
    change_none fault may why = of_opening (OpensToChange g planned before after refused still files now id) fault may (λ part offset is. inl (why part offset is)) tt tt

    -- where none is changed, the log and the tasks are those of the records, where these are right
    pub change_asked : (log : Part) (tasks : List StoredTask) (fault : EngineFault) → IsWhyNoneEnabled before after refused log id tasks fault → (asked : AreAsked g planned files)
        → (IsRefusal fault → IsGood g planned asked.records → IsNamed now log × (tasks ≡ (held asked.records).tasks))
        → OpensToChange g planned before after refused still files now id (status_of_engine fault)
    change_asked log tasks (engines.Script fault) why asked there = absurd why
    change_asked log tasks engines.NoTask why asked there = asked
    change_asked log tasks engines.Exists why asked there = absurd why
    change_asked log tasks engines.TooManyTasks why asked there = absurd why
    change_asked log tasks (engines.NotStore part offset) why asked there = inr (record {
      asked = asked;
      again = λ good. let t = there tt good in (
        subst (IsNamed now) (sym why.0) t.0,
        subst (λ (ts : List StoredTask). IsRefusedAgain before after refused (task_of id ts) offset) t.1 why.1,
      );
    })
    change_asked log tasks engines.DiskFault why asked there = tt
    change_asked log tasks engines.NoMemory why asked there = tt

-- ---- how it ends, on any disk

-- no task is defined
pub define_ends : (apart : Apart) (refused id script : List ℕ) (tasks : List StoredTask) (fault : EngineFault) → IsScript script → IsWhyNoneDefined refused id script tasks fault → EndsDefinition refused script (status_of_engine fault)
define_ends apart refused id script tasks (engines.Script fault) is why = by (script_status fault)
  where
    by : (status_of_script fault ≡ statuses.NoMemory) ⊎ (status_of_script fault ≡ statuses.Script fault) → EndsDefinition refused script (status_of_script fault)
    by (inl e) = subst (EndsDefinition refused script) (sym e) tt
    by (inr e) = subst (EndsDefinition refused script) (sym e) (why, is_pattern apart refused script fault is why)
define_ends apart refused id script tasks engines.NoTask is why = absurd why
define_ends apart refused id script tasks engines.Exists is why = tt
define_ends apart refused id script tasks engines.TooManyTasks is why = tt
define_ends apart refused id script tasks (engines.NotStore part offset) is why = absurd why
define_ends apart refused id script tasks engines.DiskFault is why = tt
define_ends apart refused id script tasks engines.NoMemory is why = tt

-- none is changed
pub change_ends : (before after : ℕ) (refused : List ℕ) (log : Part) (id : List ℕ) (tasks : List StoredTask) (fault : EngineFault) → IsWhyNoneEnabled before after refused log id tasks fault → EndsChange (status_of_engine fault)
change_ends before after refused log id tasks (engines.Script fault) why = absurd why
change_ends before after refused log id tasks engines.NoTask why = tt
change_ends before after refused log id tasks engines.Exists why = absurd why
change_ends before after refused log id tasks engines.TooManyTasks why = absurd why
change_ends before after refused log id tasks (engines.NotStore part offset) why = tt
change_ends before after refused log id tasks engines.DiskFault why = tt
change_ends before after refused log id tasks engines.NoMemory why = tt

-- a definition that was read ends early only where nothing was opened
pub not_early : (refused text : List ℕ) (status : Status) → EndsDefinition refused text status → is_early status ≡ true → ⊥
not_early refused text statuses.Ok ends early = absurd cc
not_early refused text statuses.Usage ends early = ends
not_early refused text (statuses.Script fault) ends early = let none = not-true (is_refusal fault) early in let some = ends.1 in absurd cc
not_early refused text (statuses.Line n fault) ends early = ends
not_early refused text (statuses.Truncated n) ends early = ends
not_early refused text (statuses.NotStore part offset) ends early = absurd cc
not_early refused text statuses.NoTask ends early = ends
not_early refused text statuses.Exists ends early = absurd cc
not_early refused text statuses.TooManyTasks ends early = absurd cc
not_early refused text statuses.TooLong ends early = ends
not_early refused text statuses.NoMemory ends early = absurd cc
not_early refused text statuses.ReadFault ends early = ends
not_early refused text statuses.WriteFault ends early = ends
not_early refused text statuses.DiskFault ends early = absurd cc

-- why a task isn't disabled or deleted is why none is changed
pub ended_why : (before after : ℕ) (refused : List ℕ) (log : Part) (id : List ℕ) (tasks : List StoredTask) (fault : EngineFault) → IsWhyNoneEnded id tasks fault → IsWhyNoneEnabled before after refused log id tasks fault
ended_why before after refused log id tasks (engines.Script fault) why = absurd why
ended_why before after refused log id tasks engines.NoTask why = why
ended_why before after refused log id tasks engines.Exists why = absurd why
ended_why before after refused log id tasks engines.TooManyTasks why = absurd why
ended_why before after refused log id tasks (engines.NotStore part offset) why = absurd why
ended_why before after refused log id tasks engines.DiskFault why = why
ended_why before after refused log id tasks engines.NoMemory why = tt
