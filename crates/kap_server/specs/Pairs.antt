-- Which pairs of an id and a script are tasks, and why others are none.
use Rattle.std.specs.Prelude.{◌≡◌, ◌⊎◌, ℕ, ◌<◌, ◌++◌, ⊤, Bool, true, false, List, [], ◌∷◌, length, map, Option, None}
use Rattle.std.specs.List.{list_any}
use Rattle.std.specs.Str.{bytes_eq}
use Rattle.lambda_types.specs.Faults.{Refusal}
use Rattle.kap_base.specs.declared.limits.TheConstants.{SCRIPT_LIMIT}
use Rattle.tick_compile.specs.Scripts.{Accepts, Refuses}
use Rattle.tick_compile.specs.declared.tasks.Task.{Task}
use Rattle.effect_text.specs.declared.names.TaskNames.{TaskNames}
use Rattle.kap_server.specs.declared.status.Status.{Status}
use Rattle.kap_server.specs.declared.status.Status.TheVariants.{Script, Exists, TooLong}
use Rattle.kap_server.specs.ReadingIn.{IsShort}
use Rattle.kap_server.specs.Words.{Pair}

-- the id is one of these
abbrev pub is_among : List ℕ → List (List ℕ) → Bool
is_among id ids = list_any (bytes_eq id) ids

-- The pair is this task, behind pairs with these ids: its script isn't too long, its id is new, and its script is the
-- task's.
pub record IsTask (ids : List (List ℕ)) (pair : Pair) (task : Task) : Type 0 where
  pub short : IsShort pair.script
  pub new : is_among pair.id ids ≡ false
  pub accepted : Accepts None pair.script task

-- the pairs are these tasks, one after the other, behind pairs with these ids
abbrev pub AreTasks : List (List ℕ) → List Pair → List Task → Type 0
AreTasks ids [] [] = ⊤
AreTasks ids [] (task ∷ tasks) = ⊥
AreTasks ids (pair ∷ pairs) [] = ⊥
AreTasks ids (pair ∷ pairs) (task ∷ tasks) = IsTask ids pair task × AreTasks (ids ++ pair.id ∷ []) pairs tasks

-- why the pair is no task: its script is too long; else its id was given before; else the first fault of its script,
-- where this pattern is refused, or none is
abbrev pub IsNoTask : Option Refusal → List (List ℕ) → Pair → Status → Type 0
IsNoTask refused ids pair TooLong = SCRIPT_LIMIT < length pair.script
IsNoTask refused ids pair Exists = IsShort pair.script × (is_among pair.id ids ≡ true)
IsNoTask refused ids pair (Script fault) =
    IsShort pair.script × (is_among pair.id ids ≡ false) × Refuses refused pair.script fault
IsNoTask refused ids pair other = ⊥

-- why the first pair that is no task is none
abbrev pub AreNoTasks : Option Refusal → List (List ℕ) → List Pair → Status → Type 0
AreNoTasks refused ids [] status = ⊥
AreNoTasks refused ids (pair ∷ pairs) status =
    IsNoTask refused ids pair status
    ⊎ ((task : Task) × IsTask ids pair task × AreNoTasks refused (ids ++ pair.id ∷ []) pairs status)

-- the names by which lines tell of a task
abbrev pub names_of : Pair → Task → TaskNames
names_of pair task = record { id = pair.id; nodes = map (λ node. node.name) task.graph }

-- those of tasks
abbrev pub task_names : List Pair → List Task → List TaskNames
task_names [] tasks = []
task_names (pair ∷ pairs) [] = []
task_names (pair ∷ pairs) (task ∷ tasks) = names_of pair task ∷ task_names pairs tasks
