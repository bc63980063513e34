-- Lives that are restored from a snapshot run on from where their points had brought them.
use Rattle.std.proofs.Common.{◌≡◌, ℕ, ◌+◌, ◌≤◌, Bool, true, false, List, [], ◌∷◌, ◌++◌, length, map, drop, zip, refl, sym, ap, subst, ◌∙◌, arith}
use Rattle.std.specs.List.{AllByRecursion as Each, AllZip}
use Rattle.kap_base.specs.Points.{PointValue}
use Rattle.kap_base.specs.Tree.{Tree}
use Rattle.kap_base.specs.declared.items.Stamp.{Stamp}
use Rattle.barrier_snapshot.proofs.SnapshotLaws.{lives_are_restored}
use Rattle.barrier_snapshot.specs.Captures.{in_lives}
use Rattle.barrier_snapshot.specs.Loading.{IsSameLife}
use Rattle.barrier_snapshot.specs.Restoring.{Restores}
use Rattle.barrier_snapshot.specs.Snapshots.{IsSnapshot}
use Rattle.effect_text.specs.Lines.{task_of}
use Rattle.effect_text.specs.declared.names.TaskNames.{TaskNames}
use Rattle.flow_core.specs.Making.{AreLivesBehind}
use Rattle.flow_core.specs.Nets.{NetValue, NumberedLife, numbers_of}
use Rattle.life_effects.specs.Effects.{courses_of}
use Rattle.net_epochs.specs.Epochs.{AreNumberedBy, NumbersRise, nodes_in}
use Rattle.node_core.specs.declared.node.Node.{Ghosts}
use Rattle.node_set.specs.Tasks.{Planned, Sits}
use Rattle.state_code.specs.Spelling.{IsSpelling}
use Rattle.store_records.specs.declared.task.Life.{Life}
use Rattle.task_graph.specs.declared.spec.NodeSpec.{NodeSpec}
use Rattle.task_run.specs.Courses.{Course, end_of}
use Rattle.task_run.specs.Graphs.{Placed}
use Rattle.task_run.specs.Plans.{AreNodesFrom, IsPlan, PlanValue, graph_of}
use Rattle.tick_compile.specs.declared.tasks.Task.{Task}
use Rattle.engine_runs.specs.Restoring.{HasPlanned}
use Rattle.engine_runs.specs.Running.{LivesRun, courses_on}
use Rattle.engine_runs.specs.Scripts.{AreTasksOf, graphs_from, life_nodes, names_from, node_specs}
use Rattle.engine_runs.specs.Spans.{AreThere, IsAway, Spans, numbers_from, picked}
use Rattle.engine_runs.proofs.LaterLaws.{open_goes}
use Rattle.engine_runs.proofs.PlanLaws.{all_planned, same_picked}
use Rattle.engine_runs.proofs.RestedLaws.{restored_rest}
use Rattle.engine_runs.proofs.ScriptLaws.{courses_numbered, numbers_rise}

module _ {P : Type 0} (planned : Planned P) where
  -- no more courses than lives
  courses-few : (n : ℕ) (points : List PointValue) (lives : List Life) (tasks : List Task) → length (courses_of lives (graphs_from planned n lives tasks) points) ≤ length lives
  courses-few n points [] tasks = omega arith
  courses-few n points (life ∷ lives) [] = omega arith
  courses-few n points (life ∷ lives) (task ∷ tasks) = let rest = courses-few (n + 1) points lives tasks in omega (arith, rest)

  nodes-picked : (n : ℕ) (points : List PointValue) (runs : List Bool) (lives : List Life) (tasks : List Task)
      → nodes_in (picked runs (courses_of lives (graphs_from planned n lives tasks) points)) ≡ picked runs (graphs_from planned n lives tasks)
  nodes-picked n points [] lives tasks = refl
  nodes-picked n points (r ∷ runs) [] tasks = refl
  nodes-picked n points (r ∷ runs) (life ∷ lives) [] = refl
  nodes-picked n points (true ∷ runs) (life ∷ lives) (task ∷ tasks) = ap (λ (gs : List (List (Placed P))). life_nodes planned n life task ∷ gs) (nodes-picked (n + 1) points runs lives tasks)
  nodes-picked n points (false ∷ runs) (life ∷ lives) (task ∷ tasks) = nodes-picked (n + 1) points runs lives tasks

  ends-picked : (n : ℕ) (points : List PointValue) (runs : List Bool) (lives : List Life) (tasks : List Task) → AreThere (length points) 0 runs lives
      → Each (λ (c : Course P). end_of c ≡ length points) (picked runs (courses_of lives (graphs_from planned n lives tasks) points))
  ends-picked n points [] lives tasks h = tt
  ends-picked n points (r ∷ runs) [] tasks h = absurd h
  ends-picked n points (true ∷ runs) (life ∷ lives) [] h = tt
  ends-picked n points (false ∷ runs) (life ∷ lives) [] h = tt
  ends-picked n points (true ∷ runs) (life ∷ lives) (task ∷ tasks) h = ((open_goes points [] life (life_nodes planned n life task) h.0).ends, ends-picked (n + 1) points runs lives tasks h.1)
  ends-picked n points (false ∷ runs) (life ∷ lives) (task ∷ tasks) h = ends-picked (n + 1) points runs lives tasks h.1

  graphs-few : (n : ℕ) (lives : List Life) (tasks : List Task) → length (graphs_from planned n lives tasks) ≤ length lives
  graphs-few n [] tasks = omega arith
  graphs-few n (life ∷ lives) [] = omega arith
  graphs-few n (life ∷ lives) (task ∷ tasks) = let rest = graphs-few (n + 1) lives tasks in omega (arith, rest)

module _ {N P S : Type 0} (g : Ghosts N P S) where
  -- what the nodes of plans are, by their graphs
  nodes-specs : (which at : ℕ) (nodes : List N) (parents : List (List ℕ)) → AreNodesFrom g.spec g.ports g.life g.number which at nodes parents
      → map (λ (d : Placed P). d.spec) (map (λ (p : N × List ℕ). record { spec = g.spec p.0; parents = p.1 }) (zip nodes parents)) ≡ map g.spec nodes
  nodes-specs which at [] [] h = refl
  nodes-specs which at [] (ps ∷ parents) h = absurd h
  nodes-specs which at (n ∷ nodes) [] h = absurd h
  nodes-specs which at (n ∷ nodes) (ps ∷ parents) h = ap (λ (l : List P). g.spec n ∷ l) (nodes-specs which (at + 1) nodes parents h.1)

  plans-specs : (plans : List (PlanValue N)) → Each (IsPlan g.spec g.ports g.life g.number) plans → in_lives g.spec plans ≡ node_specs (map (graph_of g.spec) plans)
  plans-specs [] h = refl
  plans-specs (plan ∷ plans) h =
      ap (λ (l : List P). l ++ in_lives g.spec plans) (sym (nodes-specs plan.life 0 plan.nodes plan.parents h.0.nodes))
      ∙ ap (λ (l : List P). map (λ (d : Placed P). d.spec) (graph_of g.spec plan) ++ l) (plans-specs plans h.1)

  -- what the nodes of the lives are that were planned again
  pub specs_planned : (planned : Planned P) (lives : List Life) (tasks : List Task) (runs : List Bool) (names : List TaskNames) (plans : List (PlanValue N)) → AreTasksOf lives tasks → HasPlanned g.spec planned lives runs [] names plans
      → Each (IsPlan g.spec g.ports g.life g.number) plans → node_specs (picked runs (graphs_from planned 1 lives tasks)) ≡ in_lives g.spec plans
  specs_planned planned lives tasks runs names plans are h kept =
      let graphs = graphs_from planned 1 lives tasks in
      ap node_specs (same_picked lives runs h.passed h.left graphs h.split h.rest_is (graphs-few planned 1 lives tasks) ∙ sym (h.graphs tasks are))
      ∙ sym (plans-specs plans kept)

  same-numbers : (plans loaded : List (PlanValue N)) → AllZip (IsSameLife g.spec) plans loaded → map (λ plan. plan.life) loaded ≡ map (λ plan. plan.life) plans
  same-numbers [] [] same = refl
  same-numbers [] (o ∷ loaded) same = absurd same
  same-numbers (p ∷ plans) [] same = absurd same
  same-numbers (p ∷ plans) (o ∷ loaded) same = ap (λ (n : ℕ). n ∷ map (λ plan. plan.life) loaded) same.0.life ∙ ap (λ (ns : List ℕ). p.life ∷ ns) (same-numbers plans loaded same.1)

  life-numbers : (stamp : ℕ) (loaded : List (PlanValue N)) (lives : List (NumberedLife N)) → AreLivesBehind g stamp loaded lives → numbers_of lives ≡ map (λ plan. plan.life) loaded
  life-numbers stamp [] [] are = refl
  life-numbers stamp [] (l ∷ lives) are = absurd are
  life-numbers stamp (o ∷ loaded) [] are = absurd are
  life-numbers stamp (o ∷ loaded) (l ∷ lives) are = ap (λ (n : ℕ). n ∷ numbers_of lives) are.0.number ∙ ap (λ (ns : List ℕ). o.life ∷ ns) (life-numbers stamp loaded lives are.1)

  module _ (planned : Planned P)
      (sits : (task : List ℕ) (life number : ℕ) (node : NodeSpec Tree) → Sits g.ports g.life g.number life number (length node.parents) node.spec (planned task life number node))
      (spelled : (p : P) → IsSpelling (g.fits p) (g.spell p) (g.read p)) where
    pub record RunsOn (lives : List Life) (tasks : List Task) (points : List PointValue) (names : List TaskNames) (net : NetValue N) : Type 0 where
      pub runs : LivesRun g planned lives tasks points 0 names net
      pub away : Each (IsAway (length points) 0) (drop (length names) lives)

    pub restored_run : (lives : List Life) (tasks : List Task) (points : List PointValue) (runs : List Bool) (names : List TaskNames) (plans : List (PlanValue N)) (there : Stamp) (bytes : List ℕ) (net : NetValue N)
        → AreTasksOf lives tasks → HasPlanned g.spec planned lives runs [] names plans → Spans (length points) 0 runs lives
        → IsSnapshot g (picked runs (courses_on g planned lives tasks points)) bytes → Restores g plans there bytes net → there.0 ≤ length points
        → RunsOn lives tasks points names net
    restored_run lives tasks points runs names plans there bytes net are h s snap res low =
        let all = courses_on g planned lives tasks points in
        let same : picked runs all ≡ picked h.passed all = same_picked lives runs h.passed h.left all h.split h.rest_is (courses-few planned 1 points lives tasks) in
        let front = all_planned (length points) lives runs h.passed h.left h.split h.rest_is s.there s.away in
        let at : net.last.0 ≡ there.0 = ap (λ (t : Stamp). t.0) res.last in
        let nodes : map (graph_of g.spec) plans ≡ nodes_in (picked h.passed all) = h.graphs tasks are ∙ sym (nodes-picked planned 1 points h.passed lives tasks) in
        let on = lives_are_restored g spelled plans there bytes net (picked h.passed all) res nodes (subst (λ (cs : List (Course P)). IsSnapshot g cs bytes) same snap) in
        let numbers : numbers_of net.lives ≡ picked h.passed (numbers_from 1 lives) = life-numbers there.0 res.loaded net.lives res.lives ∙ same-numbers plans res.loaded res.are.same ∙ h.numbers in
        record {
          runs = record {
            runs = h.passed;
            long = h.long;
            there = front.there;
            numbers = numbers;
            stands = record {
              unspent = res.unspent;
              rest = res.rest;
              none = res.gathered;
              last = omega (arith, at, low);
              ends = ends-picked planned 1 points h.passed lives tasks front.there;
              lives = on;
              numbered = subst (λ (ns : List ℕ). AreNumberedBy g ns (picked h.passed all)) (sym numbers) (courses_numbered g planned sits 1 points h.passed lives tasks are);
              rise = subst (NumbersRise 0) (sym numbers) (numbers_rise 0 1 h.passed lives (omega arith));
            };
            rested = restored_rest g plans there bytes net (picked h.passed all) res on;
            named = subst (Each (λ number. task_of names number ≡ task_of (names_from lives tasks) number)) (sym numbers) (h.named tasks are);
          };
          away = subst (λ (i : ℕ). Each (IsAway (length points) 0) (drop i lives)) h.long front.away;
        }
