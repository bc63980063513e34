-- The nodes of the lives of a store, and their names: those of their scripts.
use Rattle.std.specs.Prelude.{◌≡◌, ℕ, ◌+◌, List, [], ◌∷◌, ◌++◌, None, map}
use Rattle.std.specs.List.{AllZip}
use Rattle.effect_text.specs.declared.names.TaskNames.{TaskNames}
use Rattle.flow_core.specs.Making.{HasFewParents}
use Rattle.node_set.specs.Tasks.{Planned, nodes_from}
use Rattle.store_records.specs.declared.task.Life.{Life}
use Rattle.task_run.specs.Graphs.{Placed}
use Rattle.task_run.specs.Plans.{AreFirstNodes, PlanValue, graph_of}
use Rattle.tick_compile.specs.Scripts.{Accepts}
use Rattle.tick_compile.specs.declared.tasks.Task.{Task}

-- a life's script is that of a task
abbrev pub IsTaskOf : Life → Task → Type 0
IsTaskOf life task = Accepts None life.script task

-- and so of lives, one by one
abbrev pub AreTasksOf : List Life → List Task → Type 0
AreTasksOf lives tasks = AllZip IsTaskOf lives tasks

-- by which names lines tell of a life
abbrev pub life_names : Life → Task → TaskNames
life_names life task = record { id = life.task; nodes = map (λ node. node.name) task.graph }

-- and of lives
abbrev pub names_from : List Life → List Task → List TaskNames
names_from [] tasks = []
names_from (life ∷ lives) [] = []
names_from (life ∷ lives) (task ∷ tasks) = life_names life task ∷ names_from lives tasks

-- what the nodes of lives are, life by life and node by node
abbrev pub node_specs : {P : Type 0} → List (List (Placed P)) → List P
node_specs [] = []
node_specs (nodes ∷ graphs) = map (λ node. node.spec) nodes ++ node_specs graphs

module _ {P : Type 0} (planned : Planned P) where
  -- the nodes of the life with this number
  abbrev pub life_nodes : ℕ → Life → Task → List (Placed P)
  life_nodes number life task = nodes_from planned life.task number 0 task.graph

  -- and of lives that are numbered from here on
  abbrev pub graphs_from : ℕ → List Life → List Task → List (List (Placed P))
  graphs_from number [] tasks = []
  graphs_from number (life ∷ lives) [] = []
  graphs_from number (life ∷ lives) (task ∷ tasks) =
      life_nodes number life task ∷ graphs_from (number + 1) lives tasks

  module _ {N S : Type 0} (spec : N → P) (state : N → S) (first : P → S) where
    -- The names, and the plan, are those of the life with this number, by its script: the plan has its nodes in their
    -- first states.
    pub record IsPlanned (number : ℕ) (life : Life) (made : TaskNames × PlanValue N) : Type 0 where
      pub task : Task
      pub accepted : IsTaskOf life task
      pub names_are : made.0 ≡ life_names life task
      pub number_is : made.1.life ≡ number
      pub nodes : graph_of spec made.1 ≡ life_nodes number life task
      pub begins : AreFirstNodes spec state first made.1.nodes
      pub few : HasFewParents made.1

    -- and were put behind others
    pub record PutsPlan (number : ℕ) (life : Life) (names names_after : List TaskNames)
        (plans plans_after : List (PlanValue N)) : Type 0 where
      pub made : TaskNames × PlanValue N
      pub planned_is : IsPlanned number life made
      pub names_are : names_after ≡ names ++ made.0 ∷ []
      pub plans_are : plans_after ≡ plans ++ made.1 ∷ []
