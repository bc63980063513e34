-- Lives that are planned again: those that were open at a snapshot.
use Rattle.std.specs.Prelude.{◌≡◌, ℕ, ◌+◌, Bool, List, ◌++◌, drop, length, map}
use Rattle.std.specs.List.{AllByRecursion as Each}
use Rattle.effect_text.specs.Lines.{task_of}
use Rattle.effect_text.specs.declared.names.TaskNames.{TaskNames}
use Rattle.flow_core.specs.Making.{HasFewParents}
use Rattle.node_set.specs.Tasks.{Planned}
use Rattle.store_records.specs.declared.task.Life.{Life}
use Rattle.task_run.specs.Plans.{PlanValue, graph_of}
use Rattle.tick_compile.specs.declared.tasks.Task.{Task}
use Rattle.engine_runs.specs.Scripts.{AreTasksOf, graphs_from, names_from}
use Rattle.engine_runs.specs.Spans.{numbers_from, picked}

module _ {N P : Type 0} (spec : N → P) (planned : Planned P) (lives : List Life) (runs : List Bool) where
  -- Of the first lives those with true were planned, and of the numbers of all with true these are left.
  pub record HasPlanned (rest : List ℕ) (names : List TaskNames) (plans : List (PlanValue N)) : Type 0 where
    pub passed : List Bool
    pub left : List Bool
    pub split : runs ≡ passed ++ left
    pub long : length passed ≡ length names
    pub rest_is : rest ≡ picked left (numbers_from (1 + length passed) (drop (length passed) lives))
    pub numbers : map (λ plan. plan.life) plans ≡ picked passed (numbers_from 1 lives)
    pub few : Each HasFewParents plans
    pub graphs : (tasks : List Task) → AreTasksOf lives tasks
        → map (graph_of spec) plans ≡ picked passed (graphs_from planned 1 lives tasks)
    pub named : (tasks : List Task) → AreTasksOf lives tasks
        → Each (λ number. task_of names number ≡ task_of (names_from lives tasks) number)
        (picked passed (numbers_from 1 lives))
