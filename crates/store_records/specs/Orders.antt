-- What holds of a store behind any records, each of which may follow those before it.
use Rattle.std.specs.Prelude.{◌≡◌, ◌<◌, ◌≤◌, ℕ, true, if◌then◌else◌, List, [], ◌∷◌, length, IfSome, ⊤}
use Rattle.std.specs.List.{AllByRecursion as Each, filter}
use Rattle.std.specs.declared.cmp.Ordering.TheVariants.{Less}
use Rattle.kap_base.specs.Maps.{byte_order}
use Rattle.kap_base.specs.Texts.{is_task_id}
use Rattle.kap_base.specs.declared.limits.TheConstants.{SCRIPT_LIMIT, TASK_LIMIT}
use Rattle.store_records.specs.Held.{Held, is_enabled, is_open_of}
use Rattle.store_records.specs.declared.rec.Rec.{Rec}
use Rattle.store_records.specs.declared.rec.Rec.TheVariants as kinds
use Rattle.store_records.specs.declared.task.Life.{Life}
use Rattle.store_records.specs.declared.task.Snapshot.{Snapshot}
use Rattle.store_records.specs.declared.task.StoredTask.{StoredTask}

-- a valid id, and a script that isn't too long
pub record IsValid (task text : List ℕ) : Type 0 where
  pub called : is_task_id task ≡ true
  pub short : length text ≤ SCRIPT_LIMIT

-- each task, and each life, is valid
abbrev pub AreValidTasks : List StoredTask → Type 0
AreValidTasks tasks = Each (λ task. IsValid task.id task.script) tasks

abbrev pub AreValidLives : List Life → Type 0
AreValidLives lives = Each (λ life. IsValid life.task life.script) lives

-- a task that the record defines is valid
abbrev pub DefinesValid : Rec → Type 0
DefinesValid (kinds.Define id script enabled) = IsValid id script
DefinesValid r = ⊤

-- the ids rise in byte order, so that none stands twice
abbrev pub IdsRise : List StoredTask → Type 0
IdsRise [] = ⊤
IdsRise (task ∷ tasks) = Each (λ other. byte_order task.id other.id ≡ Less) tasks × IdsRise tasks

-- a snapshot of no more than is there, with the numbers of lives that are there
pub record IsSnapWithin (h : Held) (s : Snapshot) : Type 0 where
  pub points : s.points ≤ length h.points
  pub transitions : s.transitions ≤ length h.transitions
  pub lives : Each (λ number. (0 < number) × (number ≤ length h.lives)) s.lives

-- Each enabled task has just one open life, and no other text has one.
abbrev pub HasOpenLives : Held → Type 0
HasOpenLives h = (id : List ℕ) → length (filter (is_open_of id) h.lives) ≡ (if is_enabled id h.tasks then 1 else 0)

-- What a store holds is in order: its tasks are valid, at most 64, with rising ids; its lives are of valid tasks, and
-- one is open for each enabled task; its last snapshot lies within it.
pub record IsInOrder (h : Held) : Type 0 where
  pub rise : IdsRise h.tasks
  pub few : length h.tasks ≤ TASK_LIMIT
  pub tasks : AreValidTasks h.tasks
  pub lives : AreValidLives h.lives
  pub one_open : HasOpenLives h
  pub snap : IfSome h.snap (IsSnapWithin h)
