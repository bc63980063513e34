-- Tasks are made ready one after the other.
use Rattle.std.proofs.Common.{◌≡◌, ℕ, ◌+◌, List, [], ◌∷◌, ◌++◌, length, map, arith, refl, sym, ap, ◌∙◌, subst, append_assoc, append-nil}
use Rattle.std.specs.Prelude.{◌||◌}
use Rattle.std.specs.List.{AllByRecursion as Each, list_any}
use Rattle.std.specs.Str.{bytes_eq}
use Rattle.std.proofs.lemmas.List.{map-append}
use Rattle.kap_base.specs.Tree.{Tree}
use Rattle.flow_core.specs.Gathering.{LivesRise}
use Rattle.flow_core.specs.Making.{HasFewParents}
use Rattle.tick_compile.specs.declared.tasks.Task.{Task}
use Rattle.task_run.specs.Plans.{AreFirstNodes, AreFirstStates, PlanValue, graph_of}
use Rattle.task_run.specs.EffectOrder.{NodesNumbered}
use Rattle.task_graph.specs.declared.spec.NodeSpec.{NodeSpec}
use Rattle.node_set.specs.Tasks.{Planned, Sits, nodes_from}
use Rattle.task_run.specs.Graphs.{Placed}
use Rattle.effect_text.specs.declared.names.TaskNames.{TaskNames}
use Rattle.kap_server.specs.Pairs.{AreTasks, is_among, names_of, task_names}
use Rattle.kap_server.specs.Readying.{AddsTask, AddsTasks, ids_of}
use Rattle.kap_server.specs.Runs.{lives_from}
use Rattle.kap_server.specs.Words.{Pair}

-- an id among those of tasks
pub among : (id : List ℕ) (names : List TaskNames) → list_any (λ task. bytes_eq id task.id) names ≡ is_among id (ids_of names)
among id [] = refl
among id (task ∷ names) = ap (λ b. bytes_eq id task.id || b) (among id names)

-- ---- task after task

module _ {N P S : Type 0} (spec : N → P) (state : N → S) (first : P → S) (planned : Planned P) where
  abbrev One : ℕ → Pair → List TaskNames → List TaskNames → List (PlanValue N) → List (PlanValue N) → Type 0
  One = AddsTask spec state first planned

  abbrev All : ℕ → List Pair → List TaskNames → List TaskNames → List (PlanValue N) → List (PlanValue N) → Type 0
  All = AddsTasks spec state first planned

  pub adds_none : (life : ℕ) (names : List TaskNames) (plans : List (PlanValue N)) → All life [] names names plans plans
  adds_none life names plans = record {
    tasks = [];
    are = tt;
    names_are = sym (append-nil names);
    plans_are = sym (append-nil (map (graph_of spec) plans));
    begin = λ h. h;
    few = λ h. h;
  }

  begins_behind : (plans : List (PlanValue N)) (plan : PlanValue N) → AreFirstStates spec state first plans → AreFirstNodes spec state first plan.nodes → AreFirstStates spec state first (plans ++ plan ∷ [])
  begins_behind [] plan h new = (new, tt)
  begins_behind (p ∷ ps) plan h new = (h.0, begins_behind ps plan h.1 new)

  few_behind : (plans : List (PlanValue N)) (plan : PlanValue N) → Each HasFewParents plans → HasFewParents plan → Each HasFewParents (plans ++ plan ∷ [])
  few_behind [] plan h new = (new, tt)
  few_behind (p ∷ ps) plan h new = (h.0, few_behind ps plan h.1 new)

  pub ids_behind : (pair : Pair) (task : Task) (names names_after : List TaskNames) → names_after ≡ names ++ names_of pair task ∷ [] → ids_of names_after ≡ ids_of names ++ pair.id ∷ []
  ids_behind pair task names names_after is = ap ids_of is ∙ map-append (λ (t : TaskNames). t.id) names (names_of pair task ∷ [])

  pub adds_first : (life : ℕ) (pair : Pair) (pairs : List Pair) (n1 n2 n3 : List TaskNames) (p1 p2 p3 : List (PlanValue N))
      → One life pair n1 n2 p1 p2 → All (life + 1) pairs n2 n3 p2 p3 → All life (pair ∷ pairs) n1 n3 p1 p3
  adds_first life pair pairs n1 n2 n3 p1 p2 p3 one all =
      let plan = one.puts.plan in
      let lives : List (List (Placed P)) = lives_from planned (life + 1) pairs all.tasks in
      let ids : ids_of n2 ≡ ids_of n1 ++ pair.id ∷ [] = ids_behind pair one.task n1 n2 one.puts.names_are in
      record {
        tasks = one.task ∷ all.tasks;
        are = (one.is, subst (λ (l : List (List ℕ)). AreTasks l pairs all.tasks) ids all.are);
        names_are = all.names_are ∙ ap (λ (l : List TaskNames). l ++ task_names pairs all.tasks) one.puts.names_are
            ∙ append_assoc n1 (names_of pair one.task ∷ []) (task_names pairs all.tasks);
        plans_are = all.plans_are
            ∙ ap (λ (l : List (List (Placed P))). l ++ lives) (ap (map (graph_of spec)) one.puts.plans_are ∙ map-append (graph_of spec) p1 (plan ∷ []))
            ∙ append_assoc (map (graph_of spec) p1) (graph_of spec plan ∷ []) lives
            ∙ ap (λ (n : List (Placed P)). map (graph_of spec) p1 ++ n ∷ lives) one.puts.made;
        begin = λ h. all.begin (subst (AreFirstStates spec state first) (sym one.puts.plans_are) (begins_behind p1 plan h one.puts.begins));
        few = λ h. all.few (subst (Each HasFewParents) (sym one.puts.plans_are) (few_behind p1 plan h one.puts.few));
      }

-- ---- the lives of tasks

module _ {P : Type 0} (planned : Planned P) (ports life_of number_of : P → ℕ)
    (sits : (task : List ℕ) (life number : ℕ) (node : NodeSpec Tree) → Sits ports life_of number_of life number (length node.parents) node.spec (planned task life number node)) where
  nodes_numbered : (task : List ℕ) (life number : ℕ) (nodes : List (NodeSpec Tree)) → NodesNumbered life_of number_of life number (nodes_from planned task life number nodes)
  nodes_numbered task life number [] = tt
  nodes_numbered task life number (node ∷ nodes) =
      let at = sits task life number node in
      ((at.life_is, at.number_is), nodes_numbered task life (number + 1) nodes)

  -- they are numbered from here on
  pub lives_rise : (life : ℕ) (pairs : List Pair) (tasks : List Task) → LivesRise life_of number_of life (lives_from planned life pairs tasks)
  lives_rise life [] tasks = tt
  lives_rise life (pair ∷ pairs) [] = tt
  lives_rise life (pair ∷ pairs) (task ∷ tasks) =
      (life, omega arith, nodes_numbered pair.id life 0 task.graph, lives_rise (life + 1) pairs tasks)
