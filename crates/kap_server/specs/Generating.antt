-- What stands after `gen`.
use Rattle.std.specs.Prelude.{◌⊎◌, ℕ, List, [], Option, None}
use Rattle.std.specs.Io.KnownBytes.{Appends}
use Rattle.kap_io.specs.Pieces.{AppendsPrefix}
use Rattle.node_core.specs.Meaning.{Answer}
use Rattle.node_set.specs.Tasks.{Planned}
use Rattle.sample_points.specs.Samples.{samples}
use Rattle.sample_replay.specs.Summaries.{summary}
use Rattle.tick_compile.specs.declared.tasks.Task.{Task}
use Rattle.kap_server.specs.declared.status.Status.{Status}
use Rattle.kap_server.specs.declared.status.Status.TheVariants.{Ok, Usage, Script, Line, Truncated, NotStore, NoTask, Exists, TooManyTasks, TooLong, NoMemory, ReadFault, WriteFault, DiskFault}
use Rattle.kap_server.specs.Pairs.{AreTasks, task_names}
use Rattle.kap_server.specs.Runs.{RanOut, RefusesPairs, lives_from}
use Rattle.kap_server.specs.Words.{Pair}

-- By the status, where w and v are what was written before and after: at Ok the text was appended; after a write fault,
-- and after want of memory, a prefix of it.
abbrev pub WritesText : List ℕ → Status → Option (List ℕ) → Option (List ℕ) → Type 0
WritesText text Ok w v = Appends w v text
WritesText text Usage w v = ⊥
WritesText text (Script fault) w v = ⊥
WritesText text (Line n fault) w v = ⊥
WritesText text (Truncated n) w v = ⊥
WritesText text (NotStore part offset) w v = ⊥
WritesText text Exists w v = ⊥
WritesText text NoTask w v = ⊥
WritesText text TooManyTasks w v = ⊥
WritesText text TooLong w v = ⊥
WritesText text NoMemory w v = AppendsPrefix w v text
WritesText text ReadFault w v = ⊥
WritesText text WriteFault w v = AppendsPrefix w v text
WritesText text DiskFault w v = ⊥

-- the pairs are tasks, which run in lives numbered from 1, and the summary of what they make of the first n points of
-- the sample recording was written, as the status says
pub record SumsTasks {P : Type 0} (answer : P → Answer) (planned : Planned P) (n : ℕ) (pairs : List Pair)
    (result : Status) (w v : Option (List ℕ)) : Type 0 where
  pub tasks : List Task
  pub are : AreTasks [] pairs tasks
  pub written : WritesText
      (summary answer (task_names pairs tasks) (lives_from planned 1 pairs tasks) (samples n)) result w v

-- What stands after `gen` for pairs: their summary was written, as the status says; or the first pair that is no task
-- is refused, or memory ran out, and nothing was written. `refused` is the pattern that was refused last.
abbrev pub Summed : {P : Type 0} → (P → Answer) → Planned P → List ℕ → ℕ → List Pair → Status → Option (List ℕ)
    → Option (List ℕ) → Type 0
Summed answer planned refused n pairs result w v =
    SumsTasks answer planned n pairs result w v
    ⊎ (RefusesPairs refused pairs result None None w v ⊎ RanOut result None None w v)
