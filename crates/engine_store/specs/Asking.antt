-- The scripts of a store, asked in the order of the records that brought them.
use Rattle.std.specs.Prelude.{◌≡◌, ◌⊎◌, ℕ, ◌≤◌, ◌<◌, ⊤, Contains, List, None, Option, Some}
use Rattle.std.specs.List.{AllByRecursion as Each}
use Rattle.store_records.specs.declared.task.Life.{Life}
use Rattle.store_records.specs.declared.task.StoredTask.{StoredTask}
use Rattle.tick_compile.specs.Scripts.{Accepts}
use Rattle.tick_compile.specs.declared.tasks.Task.{Task}
use Rattle.engine_runs.specs.Faults.{IsRefused}
use Rattle.engine_runs.specs.declared.fault.RunFault.{RunFault}
use Rattle.engine_runs.specs.declared.fault.RunFault.TheVariants.{NoMemory, Script, States}

-- ---- scripts that are tasks

-- the text is the script of some task
abbrev pub IsScript : List ℕ → Type 0
IsScript text = (task : Task) × Accepts None text task

-- so is the script of each task that is there, and of each life
pub record AreScripts (tasks : List StoredTask) (lives : List Life) : Type 0 where
  pub of_tasks : Each (λ task. IsScript task.script) tasks
  pub of_lives : Each (λ life. IsScript life.script) lives

-- ---- the first that is none

-- the record at this place defined this script, of a task that is there or of a life
abbrev pub IsDefinedAt : List StoredTask → List Life → ℕ → List ℕ → Type 0
IsDefinedAt tasks lives place text =
    ((task : StoredTask) × Contains tasks task × (task.define_at ≡ place) × (task.script ≡ text))
    ⊎ ((life : Life) × Contains lives life × (life.define_at ≡ place) × (life.script ≡ text))

module _ (before after : ℕ) (refused : List ℕ) where
  -- A script that the record at this place defined is that of no task, and those of records before it are.
  pub record IsFirstRefused (tasks : List StoredTask) (lives : List Life) (place : ℕ) : Type 0 where
    pub text : List ℕ
    pub there : IsDefinedAt tasks lives place text
    pub why : IsRefused before after refused text
    pub tasks_before : Each (λ task. task.define_at < place → IsScript task.script) tasks
    pub lives_before : Each (λ life. life.define_at < place → IsScript life.script) lives

  -- why the scripts aren't those of tasks: for the first of them, or memory ran out
  abbrev pub IsWhyFirst : List StoredTask → List Life → RunFault → Type 0
  IsWhyFirst tasks lives (Script place) = IsFirstRefused tasks lives place
  IsWhyFirst tasks lives States = ⊥
  IsWhyFirst tasks lives NoMemory = ⊤

  -- why a script, which the record at this place defined, isn't that of a task
  abbrev pub IsWhyAt : ℕ → List ℕ → RunFault → Type 0
  IsWhyAt place text (Script at) = (at ≡ place) × IsRefused before after refused text
  IsWhyAt place text States = ⊥
  IsWhyAt place text NoMemory = ⊤

  module _ {T : Type 0} (place_of : T → ℕ) (text_of : T → List ℕ) where
    -- one of these, which the record at a place brought, has such a script
    pub record IsOneRefused (items : List T) (place : ℕ) : Type 0 where
      pub item : T
      pub among : Contains items item
      pub at : place_of item ≡ place
      pub why : IsRefused before after refused (text_of item)

    abbrev pub IsWhyAmong : List T → ℕ → RunFault → Type 0
    IsWhyAmong items place (Script at) = (at ≡ place) × IsOneRefused items place
    IsWhyAmong items place States = ⊥
    IsWhyAmong items place NoMemory = ⊤

-- ---- which are asked next

-- there is a least place, and it isn't above this one
abbrev pub IsNotAbove : Option ℕ → ℕ → Type 0
IsNotAbove None place = ⊥
IsNotAbove (Some least) place = least ≤ place

-- of a text this one is the last that was asked
abbrev pub IsLastAsked : Option (List ℕ) → List ℕ → Type 0
IsLastAsked None text = ⊥
IsLastAsked (Some asked) text = asked ≡ text
