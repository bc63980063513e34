-- Why tasks aren't changed.
use Rattle.std.proofs.Common.{◌≡◌, ℕ, ◌+◌, ◌<◌, Bool, true, false, not, ◌||◌, cond, List, [], ◌∷◌, length, Option, None, Some, Ok, Err, refl, sym, ap, subst, ◌∙◌, arith, true≢false}
use Rattle.std.specs.Prelude.{◌≢◌, IfErr, Result, nat_lt, slice_get}
use Rattle.std.specs.List.{AllByRecursion as Each, list_any, position, position_or_len}
use Rattle.std.proofs.lemmas.Bool.Decides.{nat_tests}
use Rattle.std.proofs.lemmas.List.Folds.{find_at}
use Rattle.kap_base.specs.Words.{HasRisen}
use Rattle.kap_base.specs.declared.limits.TheConstants.{TASK_LIMIT}
use Rattle.kap_io.specs.declared.disk.Part.{Part}
use Rattle.store_records.specs.Held.{has_task, is_called, task_of}
use Rattle.store_records.specs.declared.task.StoredTask.{StoredTask}
use Rattle.tick_compile.specs.Scripts.{Accepts, Refuses}
use Rattle.tick_compile.specs.Tasks.{is_refusal, refusal_in}
use Rattle.tick_compile.specs.declared.script_fault.ScriptFault.{ScriptFault}
use Rattle.tick_compile.specs.declared.script_fault.ScriptFault.TheVariants as scripts
use Rattle.tick_compile.specs.declared.tasks.Task.{Task}
use Rattle.topic_store.specs.Adding.{AddFault}
use Rattle.topic_store.specs.Stores.{StoreState}
use Rattle.topic_store.specs.declared.fault.StoreFault.{StoreFault}
use Rattle.topic_store.specs.declared.fault.StoreFault.TheVariants as stores
use Rattle.engine_store.specs.Asking.{IsScript}
use Rattle.engine_store.specs.Faults.{compile_fault, store_fault}
use Rattle.engine_store.specs.declared.fault.EngineFault.{EngineFault}
use Rattle.engine_store.specs.declared.fault.EngineFault.TheVariants as engines
use Rattle.kap_engine.specs.Changing.{CanBeDefined, IsFailure, IsRefusal, IsWhyNoneDefined, IsWhyNoneEnabled, IsWhyNoneEnded, IsWhyNotPlanned, fault_at}

-- ---- a script that is refused

pub defined_why : (refused id script : List ℕ) (tasks : List StoredTask) (f : ScriptFault) → (f ≢ scripts.NoMemory → Refuses (refusal_in f refused) script f) → IsWhyNoneDefined refused id script tasks (compile_fault f)
defined_why refused id script tasks (scripts.NotUtf8 at) why = why (λ e. absurd cc)
defined_why refused id script tasks (scripts.Lex fault) why = why (λ e. absurd cc)
defined_why refused id script tasks (scripts.Parse fault) why = why (λ e. absurd cc)
defined_why refused id script tasks (scripts.Name fault) why = why (λ e. absurd cc)
defined_why refused id script tasks (scripts.NoKind at) why = why (λ e. absurd cc)
defined_why refused id script tasks (scripts.Property at) why = why (λ e. absurd cc)
defined_why refused id script tasks (scripts.Argument at) why = why (λ e. absurd cc)
defined_why refused id script tasks (scripts.Handler at) why = why (λ e. absurd cc)
defined_why refused id script tasks (scripts.Template at fault) why = why (λ e. absurd cc)
defined_why refused id script tasks (scripts.Lambda fault) why = why (λ e. absurd cc)
defined_why refused id script tasks (scripts.Graph fault) why = why (λ e. absurd cc)
defined_why refused id script tasks scripts.NoFrom why = why (λ e. absurd cc)
defined_why refused id script tasks scripts.NoMemory why = tt

-- a refused pattern is told only where the count of refusals rose
pub defined_rose : (before after : ℕ) (f fault : ScriptFault) → (is_refusal f ≡ true → HasRisen before after) → compile_fault f ≡ engines.Script fault → is_refusal fault ≡ true → HasRisen before after
defined_rose before after (scripts.NotUtf8 at) fault rose e is = let same : scripts.NotUtf8 at ≡ fault = cc in rose (ap is_refusal same ∙ is)
defined_rose before after (scripts.Lex at) fault rose e is = let same : scripts.Lex at ≡ fault = cc in rose (ap is_refusal same ∙ is)
defined_rose before after (scripts.Parse at) fault rose e is = let same : scripts.Parse at ≡ fault = cc in rose (ap is_refusal same ∙ is)
defined_rose before after (scripts.Name at) fault rose e is = let same : scripts.Name at ≡ fault = cc in rose (ap is_refusal same ∙ is)
defined_rose before after (scripts.NoKind at) fault rose e is = let same : scripts.NoKind at ≡ fault = cc in rose (ap is_refusal same ∙ is)
defined_rose before after (scripts.Property at) fault rose e is = let same : scripts.Property at ≡ fault = cc in rose (ap is_refusal same ∙ is)
defined_rose before after (scripts.Argument at) fault rose e is = let same : scripts.Argument at ≡ fault = cc in rose (ap is_refusal same ∙ is)
defined_rose before after (scripts.Handler at) fault rose e is = let same : scripts.Handler at ≡ fault = cc in rose (ap is_refusal same ∙ is)
defined_rose before after (scripts.Template at why) fault rose e is = let same : scripts.Template at why ≡ fault = cc in rose (ap is_refusal same ∙ is)
defined_rose before after (scripts.Lambda at) fault rose e is = let same : scripts.Lambda at ≡ fault = cc in rose (ap is_refusal same ∙ is)
defined_rose before after (scripts.Graph at) fault rose e is = let same : scripts.Graph at ≡ fault = cc in rose (ap is_refusal same ∙ is)
defined_rose before after scripts.NoFrom fault rose e is = let same : scripts.NoFrom ≡ fault = cc in rose (ap is_refusal same ∙ is)
defined_rose before after scripts.NoMemory fault rose e is = absurd cc

module _ (before after : ℕ) (refused : List ℕ) (part log : Part) (same : part ≡ log) (found : Option StoredTask) (task : StoredTask) (is : found ≡ Some task) (disabled : task.enabled ≡ false) where
  told : (f : ScriptFault) → Refuses (refusal_in f refused) task.script f → (is_refusal f ≡ true → HasRisen before after) → IsWhyNotPlanned before after refused log found (engines.NotStore part task.define_at)
  told f why rose = (same, record { task = task; is = is; disabled = disabled; place = refl; why = record { fault = f; why = why; rose = rose } })

  -- the script of a stored task is refused
  pub not_planned : (f : ScriptFault) → (f ≢ scripts.NoMemory → Refuses (refusal_in f refused) task.script f) → (is_refusal f ≡ true → HasRisen before after) → IsWhyNotPlanned before after refused log found (fault_at part task.define_at f)
  not_planned (scripts.NotUtf8 at) why rose = told (scripts.NotUtf8 at) (why (λ e. absurd cc)) rose
  not_planned (scripts.Lex fault) why rose = told (scripts.Lex fault) (why (λ e. absurd cc)) rose
  not_planned (scripts.Parse fault) why rose = told (scripts.Parse fault) (why (λ e. absurd cc)) rose
  not_planned (scripts.Name fault) why rose = told (scripts.Name fault) (why (λ e. absurd cc)) rose
  not_planned (scripts.NoKind at) why rose = told (scripts.NoKind at) (why (λ e. absurd cc)) rose
  not_planned (scripts.Property at) why rose = told (scripts.Property at) (why (λ e. absurd cc)) rose
  not_planned (scripts.Argument at) why rose = told (scripts.Argument at) (why (λ e. absurd cc)) rose
  not_planned (scripts.Handler at) why rose = told (scripts.Handler at) (why (λ e. absurd cc)) rose
  not_planned (scripts.Template at fault) why rose = told (scripts.Template at fault) (why (λ e. absurd cc)) rose
  not_planned (scripts.Lambda fault) why rose = told (scripts.Lambda fault) (why (λ e. absurd cc)) rose
  not_planned (scripts.Graph fault) why rose = told (scripts.Graph fault) (why (λ e. absurd cc)) rose
  not_planned scripts.NoFrom why rose = told scripts.NoFrom (why (λ e. absurd cc)) rose
  not_planned scripts.NoMemory why rose = tt

-- why a task isn't planned is why it isn't enabled
pub enabled_why : (before after : ℕ) (refused : List ℕ) (log : Part) (id : List ℕ) (tasks : List StoredTask) (found : Option StoredTask) (f : EngineFault) → found ≡ task_of id tasks → IsWhyNotPlanned before after refused log found f → IsWhyNoneEnabled before after refused log id tasks f
enabled_why before after refused log id tasks found (engines.NotStore part offset) same why = subst (λ (o : Option StoredTask). IsWhyNotPlanned before after refused log o (engines.NotStore part offset)) same why
enabled_why before after refused log id tasks found (engines.Script fault) same why = why
enabled_why before after refused log id tasks found engines.NoTask same why = absurd why
enabled_why before after refused log id tasks found engines.Exists same why = why
enabled_why before after refused log id tasks found engines.TooManyTasks same why = why
enabled_why before after refused log id tasks found engines.DiskFault same why = absurd why
enabled_why before after refused log id tasks found engines.NoMemory same why = tt

-- ---- a script that is accepted

-- it is that of a task, which can be defined where no task has the id and there is room
pub can_define : (id text bytes : List ℕ) (tasks seen again : List StoredTask) (task : Task) → bytes ≡ text → seen ≡ tasks → again ≡ tasks → Accepts None bytes task → false ≡ has_task id seen
    → length again < TASK_LIMIT → CanBeDefined tasks id text
can_define id text bytes tasks seen again task same one two accepts free few = record {
  script = (task, subst (λ (t : List ℕ). Accepts None t task) same accepts);
  free = ap (has_task id) (sym one) ∙ sym free;
  room = subst (λ (ts : List StoredTask). length ts < TASK_LIMIT) two few;
}

-- ---- a failure

-- it is told of each call
pub failed_defined : {T : Type 0} (refused id script : List ℕ) (tasks : List StoredTask) (r : Result T EngineFault) → CanBeDefined tasks id script → IfErr r IsFailure → IfErr r (IsWhyNoneDefined refused id script tasks)
failed_defined refused id script tasks (Ok x) could h = tt
failed_defined refused id script tasks (Err (engines.NotStore part offset)) could h = absurd h
failed_defined refused id script tasks (Err (engines.Script fault)) could h = absurd h
failed_defined refused id script tasks (Err engines.NoTask) could h = absurd h
failed_defined refused id script tasks (Err engines.Exists) could h = absurd h
failed_defined refused id script tasks (Err engines.TooManyTasks) could h = absurd h
failed_defined refused id script tasks (Err engines.DiskFault) could h = could
failed_defined refused id script tasks (Err engines.NoMemory) could h = tt

pub failed_enabled : {T : Type 0} (before after : ℕ) (refused : List ℕ) (log : Part) (id : List ℕ) (tasks : List StoredTask) (r : Result T EngineFault) → has_task id tasks ≡ true → IfErr r IsFailure → IfErr r (IsWhyNoneEnabled before after refused log id tasks)
failed_enabled before after refused log id tasks (Ok x) there h = tt
failed_enabled before after refused log id tasks (Err (engines.NotStore part offset)) there h = absurd h
failed_enabled before after refused log id tasks (Err (engines.Script fault)) there h = absurd h
failed_enabled before after refused log id tasks (Err engines.NoTask) there h = absurd h
failed_enabled before after refused log id tasks (Err engines.Exists) there h = absurd h
failed_enabled before after refused log id tasks (Err engines.TooManyTasks) there h = absurd h
failed_enabled before after refused log id tasks (Err engines.DiskFault) there h = there
failed_enabled before after refused log id tasks (Err engines.NoMemory) there h = tt

pub failed_ended : {T : Type 0} (id : List ℕ) (tasks : List StoredTask) (r : Result T EngineFault) → has_task id tasks ≡ true → IfErr r IsFailure → IfErr r (IsWhyNoneEnded id tasks)
failed_ended id tasks (Ok x) there h = tt
failed_ended id tasks (Err (engines.NotStore part offset)) there h = absurd h
failed_ended id tasks (Err (engines.Script fault)) there h = absurd h
failed_ended id tasks (Err engines.NoTask) there h = absurd h
failed_ended id tasks (Err engines.Exists) there h = absurd h
failed_ended id tasks (Err engines.TooManyTasks) there h = absurd h
failed_ended id tasks (Err engines.DiskFault) there h = there
failed_ended id tasks (Err engines.NoMemory) there h = tt

-- and is no refusal
pub failed_still : {T : Type 0} (P : Type 0) (r : Result T EngineFault) → IfErr r IsFailure → IfErr r (λ f. IsRefusal f → P)
failed_still P (Ok x) h = tt
failed_still P (Err (engines.NotStore part offset)) h = absurd h
failed_still P (Err (engines.Script fault)) h = absurd h
failed_still P (Err engines.NoTask) h = absurd h
failed_still P (Err engines.Exists) h = absurd h
failed_still P (Err engines.TooManyTasks) h = absurd h
failed_still P (Err engines.DiskFault) h = λ r. absurd r
failed_still P (Err engines.NoMemory) h = λ r. absurd r

-- nor is it a script's
pub failed_rose : {T : Type 0} (P : ScriptFault → Type 0) (r : Result T EngineFault) → IfErr r IsFailure → IfErr r (λ f. (fault : ScriptFault) → f ≡ engines.Script fault → P fault)
failed_rose P (Ok x) h = tt
failed_rose P (Err (engines.NotStore part offset)) h = absurd h
failed_rose P (Err (engines.Script fault)) h = absurd h
failed_rose P (Err engines.NoTask) h = absurd h
failed_rose P (Err engines.Exists) h = absurd h
failed_rose P (Err engines.TooManyTasks) h = absurd h
failed_rose P (Err engines.DiskFault) h = λ fault e. absurd cc
failed_rose P (Err engines.NoMemory) h = λ fault e. absurd cc

-- ---- a record that isn't added

module _ {D : Type 0} (before after : D) (old new : StoreState) (rose : Type 0) where
  pub add_failed : (e : StoreFault) (f : EngineFault) → f ≡ store_fault e → AddFault (Err e) before after old new rose → IsFailure f
  add_failed (stores.NotStore part offset) f is added = absurd added
  add_failed stores.DiskFault f is added = subst IsFailure (sym is) tt
  add_failed stores.Long f is added = subst IsFailure (sym is) tt
  add_failed stores.NoMemory f is added = subst IsFailure (sym is) tt

-- ---- the task of an id

module _ {A : Type 0} (p : A → Bool) where
  some-below : (xs : List A) → list_any p xs ≡ true → position_or_len p xs < length xs
  some-below [] e = absurd (true≢false (sym e))
  some-below (x ∷ xs) e = elim (p x) as (λ b. (b || list_any p xs) ≡ true → cond (not b) (1 + position_or_len p xs) 0 < length (x ∷ xs)) [
    | true ↦ λ e. omega arith
    | false ↦ λ e. let rest = some-below xs e in omega (arith, rest)
  ] e

  none-below : (xs : List A) → list_any p xs ≡ false → position_or_len p xs ≡ length xs
  none-below [] e = refl
  none-below (x ∷ xs) e = elim (p x) as (λ b. (b || list_any p xs) ≡ false → cond (not b) (1 + position_or_len p xs) 0 ≡ length (x ∷ xs)) [
    | true ↦ λ e. absurd (true≢false e)
    | false ↦ λ e. let rest = none-below xs e in omega (arith, rest)
  ] e

  -- none passes where none was found
  none-found : (xs : List A) → position p xs ≡ None → list_any p xs ≡ false
  none-found xs e = elim (list_any p xs) as (λ t. list_any p xs ≡ t → t ≡ false) [
    | true ↦ λ t. let lt = some-below xs t in let low : nat_lt (position_or_len p xs) (length xs) ≡ true = grind (arith, nat_tests) in absurd (cc (low, e))
    | false ↦ λ t. refl
  ] refl

  -- and one does where one was
  some-found : (xs : List A) (i : ℕ) → position p xs ≡ Some i → list_any p xs ≡ true
  some-found xs i e = elim (list_any p xs) as (λ t. list_any p xs ≡ t → t ≡ true) [
    | true ↦ λ t. refl
    | false ↦ λ t. let all = none-below xs t in let high : nat_lt (position_or_len p xs) (length xs) ≡ false = grind (arith, nat_tests) in absurd (cc (high, e))
  ] refl

  place-is : (xs : List A) (i : ℕ) → position p xs ≡ Some i → position_or_len p xs ≡ i
  place-is xs i e = elim (nat_lt (position_or_len p xs) (length xs)) as (λ t. cond t (Some (position_or_len p xs)) None ≡ Some i → position_or_len p xs ≡ i) [
    | true ↦ λ e. cc
    | false ↦ λ e. absurd cc
  ] e

-- it stands where it was found
pub found_at : (id : List ℕ) (tasks : List StoredTask) (place : ℕ) → position (is_called id) tasks ≡ Some place → slice_get tasks place ≡ task_of id tasks
found_at id tasks place e = ap (slice_get tasks) (sym (place-is (is_called id) tasks place e)) ∙ sym (find_at (is_called id) tasks)

pub has_found : (id : List ℕ) (tasks : List StoredTask) (place : ℕ) → position (is_called id) tasks ≡ Some place → has_task id tasks ≡ true
has_found id tasks place e = some-found (is_called id) tasks place e

pub has_none : (id : List ℕ) (tasks : List StoredTask) → position (is_called id) tasks ≡ None → has_task id tasks ≡ false
has_none id tasks e = none-found (is_called id) tasks e

-- where each script is that of a task, so is that of the task which was found
pub found_script : (id : List ℕ) (tasks : List StoredTask) (task : StoredTask) → Each (λ task. IsScript task.script) tasks → task_of id tasks ≡ Some task → IsScript task.script
found_script id [] task all e = absurd cc
found_script id (t ∷ tasks) task all e = elim (is_called id t) as (λ b. cond b (Some t) (task_of id tasks) ≡ Some task → IsScript task.script) [
  | true ↦ λ is. let same : t ≡ task = cc in subst (λ (x : StoredTask). IsScript x.script) same all.0
  | false ↦ λ is. found_script id tasks task all.1 is
] e
