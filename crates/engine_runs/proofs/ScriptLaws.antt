-- The nodes of the lives of a store, by their scripts.
use Rattle.std.proofs.Common.{◌≡◌, ℕ, ◌+◌, ◌<◌, ◌≤◌, Bool, true, false, List, [], ◌∷◌, length, map, zip, sym, ap, ◌∙◌, arith}
use Rattle.kap_base.specs.Points.{PointValue}
use Rattle.kap_base.specs.Tree.{Tree}
use Rattle.life_effects.specs.Effects.{courses_of}
use Rattle.net_epochs.specs.Epochs.{AreNumberedBy, NumbersRise}
use Rattle.node_core.specs.declared.node.Node.{Ghosts}
use Rattle.node_set.specs.Tasks.{Planned, Sits, nodes_from}
use Rattle.store_records.specs.declared.task.Life.{Life}
use Rattle.task_graph.specs.declared.spec.NodeSpec.{NodeSpec}
use Rattle.task_run.specs.EffectOrder.{NodesNumbered}
use Rattle.task_run.specs.Graphs.{Placed}
use Rattle.task_run.specs.Plans.{AreNodesFrom, IsPlan, PlanValue, graph_of}
use Rattle.tick_compile.specs.declared.tasks.Task.{Task}
use Rattle.engine_runs.specs.Scripts.{AreTasksOf, graphs_from}
use Rattle.engine_runs.specs.Spans.{numbers_from, picked}

abbrev spec-of : {P : Type 0} → P → List (Placed P) → P
spec-of d [] = d
spec-of d (x ∷ xs) = x.spec

first-spec : {P : Type 0} (a b : P) (ps qs : List ℕ) (xs ys : List (Placed P)) → record { spec = a; parents = ps } ∷ xs ≡ record { spec = b; parents = qs } ∷ ys → a ≡ b
first-spec a b ps qs xs ys e = ap (spec-of a) e

-- numbers of the first lives rise
pub numbers_rise : {A : Type 0} (low n : ℕ) (runs : List Bool) (xs : List A) → low ≤ n → NumbersRise low (picked runs (numbers_from n xs))
numbers_rise low n [] xs le = tt
numbers_rise low n (r ∷ runs) [] le = tt
numbers_rise low n (true ∷ runs) (x ∷ xs) le = (le, numbers_rise (n + 1) (n + 1) runs xs (omega arith))
numbers_rise low n (false ∷ runs) (x ∷ xs) le = numbers_rise low (n + 1) runs xs (omega (arith, le))

module _ {P : Type 0} (planned : Planned P) (ports life_of number_of : P → ℕ)
    (sits : (task : List ℕ) (life number : ℕ) (node : NodeSpec Tree) → Sits ports life_of number_of life number (length node.parents) node.spec (planned task life number node)) where
  -- a plan's number is that of the life whose nodes it has
  number-by : {N : Type 0} (spec : N → P) (which number : ℕ) (task : List ℕ) (nodes : List N) (parents : List (List ℕ)) (graph : List (NodeSpec Tree)) → 0 < length nodes → AreNodesFrom spec ports life_of number_of which 0 nodes parents
      → map (λ p. record { spec = spec p.0; parents = p.1 }) (zip nodes parents) ≡ nodes_from planned task number 0 graph → which ≡ number
  number-by spec which number task [] parents graph some are e = absurd (omega (arith, some))
  number-by spec which number task (n ∷ nodes) [] graph some are e = absurd are
  number-by spec which number task (n ∷ nodes) (ps ∷ parents) [] some are e = absurd cc
  number-by spec which number task (n ∷ nodes) (ps ∷ parents) (node ∷ graph) some are e =
      sym are.0.life_is ∙ ap life_of (first-spec (spec n) (planned task number 0 node) ps node.parents _ _ e) ∙ (sits task number 0 node).life_is

  pub plan_number : {N : Type 0} (spec : N → P) (plan : PlanValue N) (number : ℕ) (task : List ℕ) (graph : List (NodeSpec Tree)) → IsPlan spec ports life_of number_of plan → graph_of spec plan ≡ nodes_from planned task number 0 graph → plan.life ≡ number
  plan_number spec plan number task graph is e = number-by spec plan.life number task plan.nodes plan.parents graph is.some_node is.nodes e

  nodes-numbered : (task : List ℕ) (life number : ℕ) (nodes : List (NodeSpec Tree)) → NodesNumbered life_of number_of life number (nodes_from planned task life number nodes)
  nodes-numbered task life number [] = tt
  nodes-numbered task life number (node ∷ nodes) =
      let at = sits task life number node in
      ((at.life_is, at.number_is), nodes-numbered task life (number + 1) nodes)

module _ {N P S : Type 0} (g : Ghosts N P S) (planned : Planned P)
    (sits : (task : List ℕ) (life number : ℕ) (node : NodeSpec Tree) → Sits g.ports g.life g.number life number (length node.parents) node.spec (planned task life number node)) where
  -- the nodes of lives are numbered by these
  pub courses_numbered : (n : ℕ) (points : List PointValue) (runs : List Bool) (lives : List Life) (tasks : List Task) → AreTasksOf lives tasks
      → AreNumberedBy g (picked runs (numbers_from n lives)) (picked runs (courses_of lives (graphs_from planned n lives tasks) points))
  courses_numbered n points [] lives tasks are = tt
  courses_numbered n points (r ∷ runs) [] tasks are = tt
  courses_numbered n points (r ∷ runs) (life ∷ lives) [] are = absurd are
  courses_numbered n points (true ∷ runs) (life ∷ lives) (task ∷ tasks) are =
      (nodes-numbered planned g.ports g.life g.number sits life.task n 0 task.graph, courses_numbered (n + 1) points runs lives tasks are.1)
  courses_numbered n points (false ∷ runs) (life ∷ lives) (task ∷ tasks) are = courses_numbered (n + 1) points runs lives tasks are.1
