-- What a replay of tasks writes.
use Rattle.std.specs.Prelude.{◌≡◌, ◌⊎◌, ℕ, ◌+◌, Bool, ◌++◌, if◌then◌else◌, List, [], ◌∷◌, Option, None}
use Rattle.std.specs.Io.KnownBytes.{Keeps}
use Rattle.lambda_types.specs.Faults.{Refusal}
use Rattle.node_core.specs.Meaning.{Answer}
use Rattle.node_set.specs.Tasks.{Planned, nodes_from}
use Rattle.effect_text.specs.Lines.{dropped_text, text_of}
use Rattle.effect_text.specs.declared.names.TaskNames.{TaskNames}
use Rattle.task_run.specs.Graphs.{Placed}
use Rattle.task_run.specs.Lives.{dropped_of, effects_of}
use Rattle.tick_compile.specs.Tasks.{refusal_in}
use Rattle.tick_compile.specs.declared.tasks.Task.{Task}
use Rattle.kap_server.specs.declared.status.Status.{Status}
use Rattle.kap_server.specs.declared.status.Status.TheVariants.{Ok, Script, NoMemory}
use Rattle.kap_server.specs.Pairs.{AreTasks, AreNoTasks, task_names}
use Rattle.kap_server.specs.Replaying.{IsWritten, Replayed, TextOf}
use Rattle.kap_server.specs.Words.{Pair}

-- the lives of the tasks of pairs, numbered from here on
abbrev pub lives_from : {P : Type 0} → Planned P → ℕ → List Pair → List Task → List (List (Placed P))
lives_from planned life [] tasks = []
lives_from planned life (pair ∷ pairs) [] = []
lives_from planned life (pair ∷ pairs) (task ∷ tasks) =
    nodes_from planned pair.id life 0 task.graph ∷ lives_from planned (life + 1) pairs tasks

module _ {P : Type 0} (answer : P → Answer) where
  -- the text of what the nodes of lives do on points
  abbrev pub run_text : List TaskNames → List (List (Placed P)) → TextOf
  run_text names lives points = text_of names (effects_of answer lives points)

  -- and then the lines of what they dropped, where those are wanted
  abbrev pub run_rest : Bool → List TaskNames → List (List (Placed P)) → TextOf
  run_rest counts names lives points = if counts then dropped_text names (dropped_of answer lives points) else []

-- the pairs are tasks, which run in lives numbered from 1, and their text was written, as the status says
pub record RunsTasks {P : Type 0} (answer : P → Answer) (planned : Planned P) (counts : Bool) (pairs : List Pair)
    (result : Status) (s t w v : Option (List ℕ)) : Type 0 where
  pub tasks : List Task
  pub are : AreTasks [] pairs tasks
  pub replayed : Replayed (run_text answer (task_names pairs tasks) (lives_from planned 1 pairs tasks))
      (run_rest answer counts (task_names pairs tasks) (lives_from planned 1 pairs tasks)) result s t w v

-- the refused pattern of which a status speaks, if it speaks of one, by the text that was refused last
abbrev pub refusal_of : Status → List ℕ → Option Refusal
refusal_of (Script fault) refused = refusal_in fault refused
refusal_of other refused = None

-- the status says why the first pair that is no task is none, and nothing was read or written
pub record RefusesPairs (refused : List ℕ) (pairs : List Pair) (result : Status)
    (s t w v : Option (List ℕ)) : Type 0 where
  pub why : AreNoTasks (refusal_of result refused) [] pairs result
  pub read : Keeps s t
  pub written : Keeps w v

-- memory ran out, and nothing was read or written
pub record RanOut (result : Status) (s t w v : Option (List ℕ)) : Type 0 where
  pub why : result ≡ NoMemory
  pub read : Keeps s t
  pub written : Keeps w v

-- What stands after a replay, where s and t are what was left of the input before and after, w and v what was written,
-- and `refused` is the pattern that was refused last.
abbrev pub Ran : {P : Type 0} → (P → Answer) → Planned P → List ℕ → Bool → List Pair → Status → Option (List ℕ)
    → Option (List ℕ) → Option (List ℕ) → Option (List ℕ) → Type 0
Ran answer planned refused counts pairs result s t w v =
    RunsTasks answer planned counts pairs result s t w v
    ⊎ (RefusesPairs refused pairs result s t w v ⊎ RanOut result s t w v)

-- what is due and the rest behind it were written, or the output failed, or memory ran out and nothing was written
abbrev pub EndsWritten : Status → Option (List ℕ) → Option (List ℕ) → List ℕ → List ℕ → ℕ → ℕ → Type 0
EndsWritten result w v due rest before after =
    IsWritten Ok result w v (due ++ rest) before after ⊎ ((result ≡ NoMemory) × Keeps w v)
