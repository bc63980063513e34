-- Tasks that are made ready to run.
use Rattle.std.specs.Prelude.{◌≡◌, ℕ, ◌++◌, Bool, false, List, [], ◌∷◌, map}
use Rattle.std.specs.List.{AllByRecursion as Each}
use Rattle.flow_core.specs.Making.{HasFewParents}
use Rattle.tick_compile.specs.Tasks.{is_refusal}
use Rattle.tick_compile.specs.declared.tasks.Task.{Task}
use Rattle.task_run.specs.Plans.{AreFirstNodes, AreFirstStates, PlanValue, graph_of}
use Rattle.node_set.specs.Tasks.{Planned, nodes_from}
use Rattle.effect_text.specs.declared.names.TaskNames.{TaskNames}
use Rattle.kap_server.specs.declared.status.Status.{Status}
use Rattle.kap_server.specs.declared.status.Status.TheVariants.{Script}
use Rattle.kap_server.specs.Pairs.{AreTasks, IsTask, task_names}
use Rattle.kap_server.specs.Runs.{lives_from}
use Rattle.kap_server.specs.Words.{Pair}

-- the status is that of a refused pattern
abbrev pub is_pattern_refused : Status → Bool
is_pattern_refused (Script fault) = is_refusal fault
is_pattern_refused other = false

-- the ids of tasks
abbrev pub ids_of : List TaskNames → List (List ℕ)
ids_of names = map (λ task. task.id) names

module _ {N P S : Type 0} (spec : N → P) (state : N → S) (first : P → S) (planned : Planned P) where
  -- a task was put behind others, as it runs in this life
  pub record PutsTask (life : ℕ) (id : List ℕ) (task : Task) (names names_after : List TaskNames)
      (plans plans_after : List (PlanValue N)) : Type 0 where
    pub plan : PlanValue N
    pub made : graph_of spec plan ≡ nodes_from planned id life 0 task.graph
    pub begins : AreFirstNodes spec state first plan.nodes
    pub few : HasFewParents plan
    pub names_are : names_after ≡ names ++ record { id = id; nodes = map (λ node. node.name) task.graph } ∷ []
    pub plans_are : plans_after ≡ plans ++ plan ∷ []

  -- the task of a pair was made ready for this life, behind others
  pub record AddsTask (life : ℕ) (pair : Pair) (names names_after : List TaskNames)
      (plans plans_after : List (PlanValue N)) : Type 0 where
    pub task : Task
    pub is : IsTask (ids_of names) pair task
    pub puts : PutsTask life pair.id task names names_after plans plans_after

  -- the tasks of pairs were made ready for lives from this one on, one after the other, behind others
  pub record AddsTasks (life : ℕ) (pairs : List Pair) (names names_after : List TaskNames)
      (plans plans_after : List (PlanValue N)) : Type 0 where
    pub tasks : List Task
    pub are : AreTasks (ids_of names) pairs tasks
    pub names_are : names_after ≡ names ++ task_names pairs tasks
    pub plans_are : map (graph_of spec) plans_after ≡ map (graph_of spec) plans ++ lives_from planned life pairs tasks
    pub begin : AreFirstStates spec state first plans → AreFirstStates spec state first plans_after
    pub few : Each HasFewParents plans → Each HasFewParents plans_after
