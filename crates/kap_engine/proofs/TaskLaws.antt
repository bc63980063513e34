-- The scripts of tasks and lives, behind a record that changes a task.
use Rattle.std.proofs.Common.{ℕ, zero, suc, Bool, true, false, cond, List, [], ◌∷◌, ◌++◌, Option, None, Some}
use Rattle.std.specs.Prelude.{IfSome}
use Rattle.std.specs.List.{AllByRecursion as Each, AllZip, insert, list_any, position_or_len}
use Rattle.std.specs.Ordering.{is_lt}
use Rattle.kap_base.specs.Maps.{byte_order}
use Rattle.flow_core.proofs.EndLaws.{each_remove}
use Rattle.store_records.specs.Held.{begun, end_life, ended, is_called, is_enabled, is_open_of, life_from, life_of, set_enabled, task_of, tasks_after}
use Rattle.store_records.specs.declared.rec.Rec.{Rec}
use Rattle.store_records.specs.declared.rec.Rec.TheVariants as kinds
use Rattle.store_records.specs.declared.task.Life.{Life}
use Rattle.store_records.specs.declared.task.StoredTask.{StoredTask}
use Rattle.tick_compile.specs.declared.tasks.Task.{Task}
use Rattle.engine_runs.specs.Scripts.{AreTasksOf}
use Rattle.engine_store.specs.Asking.{IsScript}
use Rattle.kap_engine.specs.Changing.{DefinesScript}

-- ---- lists

pub each_both : {A : Type 0} (Q : A → Type 0) (xs ys : List A) → Each Q xs → Each Q ys → Each Q (xs ++ ys)
each_both Q [] ys one two = two
each_both Q (x ∷ xs) ys one two = (one.0, each_both Q xs ys one.1 two)

each-insert : {A : Type 0} (Q : A → Type 0) (xs : List A) (i : ℕ) (x : A) → Each Q xs → Q x → Each Q (insert xs i x)
each-insert Q [] zero x h is = (is, tt)
each-insert Q [] (suc i) x h is = (is, tt)
each-insert Q (y ∷ xs) zero x h is = (is, h)
each-insert Q (y ∷ xs) (suc i) x h is = (h.0, each-insert Q xs i x h.1 is)

pub zip_both : {A B : Type 0} (R : A → B → Type 0) (xs : List A) (ys : List B) (us : List A) (vs : List B) → AllZip R xs ys → AllZip R us vs → AllZip R (xs ++ us) (ys ++ vs)
zip_both R [] [] us vs one two = two
zip_both R [] (y ∷ ys) us vs one two = absurd one
zip_both R (x ∷ xs) [] us vs one two = absurd one
zip_both R (x ∷ xs) (y ∷ ys) us vs one two = (one.0, zip_both R xs ys us vs one.1 two)

-- ---- scripts of tasks

-- its script is that of a task
abbrev pub HasScript : StoredTask → Type 0
HasScript task = IsScript task.script

-- so is that of a life
abbrev pub LifeHasScript : Life → Type 0
LifeHasScript life = IsScript life.script

set-scripts : (id : List ℕ) (e : Bool) (tasks : List StoredTask) → Each HasScript tasks → Each HasScript (set_enabled id e tasks)
set-scripts id e [] h = tt
set-scripts id e (task ∷ tasks) h = elim (is_called id task) as (λ b. Each HasScript (cond b (record task { enabled = e } ∷ tasks) (task ∷ set_enabled id e tasks))) [
  | true ↦ (h.0, h.1)
  | false ↦ (h.0, set-scripts id e tasks h.1)
]

found-script : (id : List ℕ) (tasks : List StoredTask) → Each HasScript tasks → IfSome (task_of id tasks) HasScript
found-script id [] h = tt
found-script id (task ∷ tasks) h = elim (is_called id task) as (λ b. IfSome (cond b (Some task) (task_of id tasks)) HasScript) [
  | true ↦ h.0
  | false ↦ found-script id tasks h.1
]

-- behind one more record
pub tasks_scripts : (at : ℕ) (r : Rec) (tasks : List StoredTask) → DefinesScript r → Each HasScript tasks → Each HasScript (tasks_after at r tasks)
tasks_scripts at (kinds.Define id script enabled) tasks s h =
    each-insert HasScript tasks (position_or_len (λ other. is_lt (byte_order id other.id)) tasks) (record { id = id; script = script; enabled = enabled; define_at = at }) h s
tasks_scripts at (kinds.Enable id) tasks s h = set-scripts id true tasks h
tasks_scripts at (kinds.Disable id) tasks s h = set-scripts id false tasks h
tasks_scripts at (kinds.Delete id) tasks s h = each_remove HasScript tasks (position_or_len (is_called id) tasks) h
tasks_scripts at (kinds.Batch db rp points) tasks s h = h
tasks_scripts at (kinds.Trans ts) tasks s h = h
tasks_scripts at (kinds.Snap points trans states) tasks s h = h

-- ---- of lives that begin

of-scripts : (n : ℕ) (found : Option StoredTask) → IfSome found HasScript → Each LifeHasScript (life_of n found)
of-scripts n None h = tt
of-scripts n (Some task) h = elim task.enabled as (λ b. Each LifeHasScript (cond b [] (life_from n task ∷ []))) [
  | true ↦ tt
  | false ↦ (h, tt)
]

pub begun_scripts : (n at : ℕ) (r : Rec) (tasks : List StoredTask) → DefinesScript r → Each HasScript tasks → Each LifeHasScript (begun n at r tasks)
begun_scripts n at (kinds.Define id script enabled) tasks s h = elim enabled as (λ b. Each LifeHasScript (cond b (life_from n (record { id = id; script = script; enabled = b; define_at = at }) ∷ []) [])) [
  | true ↦ (s, tt)
  | false ↦ tt
]
begun_scripts n at (kinds.Enable id) tasks s h = of-scripts n (task_of id tasks) (found-script id tasks h)
begun_scripts n at (kinds.Disable id) tasks s h = tt
begun_scripts n at (kinds.Delete id) tasks s h = tt
begun_scripts n at (kinds.Batch db rp points) tasks s h = tt
begun_scripts n at (kinds.Trans ts) tasks s h = tt
begun_scripts n at (kinds.Snap points trans states) tasks s h = tt

-- ---- of lives that end

end-scripts : (id : List ℕ) (n : ℕ) (lives : List Life) → Each LifeHasScript lives → Each LifeHasScript (end_life id n lives)
end-scripts id n [] h = tt
end-scripts id n (life ∷ lives) h = elim (list_any (is_open_of id) lives) as (λ b. Each LifeHasScript (cond b (life ∷ end_life id n lives) (cond (is_open_of id life) (record life { last = Some n }) life ∷ lives))) [
  | true ↦ (h.0, end-scripts id n lives h.1)
  | false ↦ elim (is_open_of id life) as (λ b. Each LifeHasScript (cond b (record life { last = Some n }) life ∷ lives)) [
    | true ↦ (h.0, h.1)
    | false ↦ h
  ]
]

scripts-if : (b : Bool) (id : List ℕ) (n : ℕ) (lives : List Life) → Each LifeHasScript lives → Each LifeHasScript (cond b (end_life id n lives) lives)
scripts-if true id n lives h = end-scripts id n lives h
scripts-if false id n lives h = h

pub ended_scripts : (n : ℕ) (r : Rec) (tasks : List StoredTask) (lives : List Life) → Each LifeHasScript lives → Each LifeHasScript (ended n r tasks lives)
ended_scripts n (kinds.Define id script enabled) tasks lives h = h
ended_scripts n (kinds.Enable id) tasks lives h = h
ended_scripts n (kinds.Disable id) tasks lives h = scripts-if (is_enabled id tasks) id n lives h
ended_scripts n (kinds.Delete id) tasks lives h = scripts-if (is_enabled id tasks) id n lives h
ended_scripts n (kinds.Batch db rp points) tasks lives h = h
ended_scripts n (kinds.Trans ts) tasks lives h = h
ended_scripts n (kinds.Snap points trans states) tasks lives h = h

-- ---- the tasks of lives

end-tasks : (id : List ℕ) (n : ℕ) (lives : List Life) (tasks : List Task) → AreTasksOf lives tasks → AreTasksOf (end_life id n lives) tasks
end-tasks id n [] tasks are = are
end-tasks id n (life ∷ lives) [] are = absurd are
end-tasks id n (life ∷ lives) (task ∷ tasks) are = elim (list_any (is_open_of id) lives) as (λ b. AreTasksOf (cond b (life ∷ end_life id n lives) (cond (is_open_of id life) (record life { last = Some n }) life ∷ lives)) (task ∷ tasks)) [
  | true ↦ (are.0, end-tasks id n lives tasks are.1)
  | false ↦ elim (is_open_of id life) as (λ b. AreTasksOf (cond b (record life { last = Some n }) life ∷ lives) (task ∷ tasks)) [
    | true ↦ (are.0, are.1)
    | false ↦ are
  ]
]

tasks-if : (b : Bool) (id : List ℕ) (n : ℕ) (lives : List Life) (tasks : List Task) → AreTasksOf lives tasks → AreTasksOf (cond b (end_life id n lives) lives) tasks
tasks-if true id n lives tasks are = end-tasks id n lives tasks are
tasks-if false id n lives tasks are = are

-- a life that ends has its task still
pub ended_tasks : (n : ℕ) (r : Rec) (stored : List StoredTask) (lives : List Life) (tasks : List Task) → AreTasksOf lives tasks → AreTasksOf (ended n r stored lives) tasks
ended_tasks n (kinds.Define id script enabled) stored lives tasks are = are
ended_tasks n (kinds.Enable id) stored lives tasks are = are
ended_tasks n (kinds.Disable id) stored lives tasks are = tasks-if (is_enabled id stored) id n lives tasks are
ended_tasks n (kinds.Delete id) stored lives tasks are = tasks-if (is_enabled id stored) id n lives tasks are
ended_tasks n (kinds.Batch db rp points) stored lives tasks are = are
ended_tasks n (kinds.Trans ts) stored lives tasks are = are
ended_tasks n (kinds.Snap points trans states) stored lives tasks are = are

-- the tasks of lives, by their scripts
abbrev pub tasks_for : (lives : List Life) → Each LifeHasScript lives → List Task
tasks_for [] h = []
tasks_for (life ∷ lives) h = h.0.0 ∷ tasks_for lives h.1

pub are_for : (lives : List Life) (h : Each LifeHasScript lives) → AreTasksOf lives (tasks_for lives h)
are_for [] h = tt
are_for (life ∷ lives) h = (h.0.1, are_for lives h.1)
