-- The net that carried the points of tasks.
use Rattle.std.proofs.Common.{◌≡◌, ℕ, Option, Some, List, [], map, ◌∙◌, subst}
use Rattle.kap_base.specs.Points.{PointValue}
use Rattle.node_core.specs.declared.node.Node.{Ghosts}
use Rattle.node_set.specs.Tasks.{Planned}
use Rattle.flow_core.specs.Carried.{HasCarried}
use Rattle.flow_core.specs.Nets.{NetValue}
use Rattle.effect_text.specs.declared.names.TaskNames.{TaskNames}
use Rattle.task_run.specs.Graphs.{Placed}
use Rattle.task_run.specs.Plans.{PlanValue, graph_of}
use Rattle.kap_server.specs.Nets.{HoldsNet, HoldsNetOf, HoldsNetOfSamples, HoldsNetOfTasks}
use Rattle.kap_server.specs.Readying.{AddsTasks}
use Rattle.kap_server.specs.Words.{Pair, Replay, Request, Summarize}
use Rattle.kap_server.proofs.GenLaws.{same_number, same_tasks}
use Rattle.kap_server.proofs.RunLaws.{same_pairs}
use Rattle.kap_server.specs.declared.options.ReplayOptions.{ReplayOptions}

module _ {N P S : Type 0} (g : Ghosts N P S) where
  -- a net that is handed out is one of these lives
  pub handed : (lives : List (List (Placed P))) (points : List PointValue) (net : NetValue N) (ran : Option (NetValue N)) → ran ≡ Some net → HasCarried g lives points net → HoldsNet g lives points ran
  handed lives points net ran is carried = record { net = net; is = is; carried = carried }

  module _ (planned : Planned P) (pairs : List Pair) (names : List TaskNames) (plans : List (PlanValue N)) (adds : AddsTasks g.spec g.state g.first planned 1 pairs [] names [] plans) (ran : Option (NetValue N)) where
    -- of tasks that were made ready
    pub holds_tasks : (input : Option (List ℕ)) → HoldsNetOf g (map (graph_of g.spec) plans) input ran → HoldsNetOfTasks g planned pairs input ran
    holds_tasks input h = record {
      tasks = adds.tasks;
      are = adds.are;
      holds = subst (λ (ls : List (List (Placed P))). HoldsNetOf g ls input ran) adds.plans_are h;
    }

-- ---- what the words ask for

module _ {N P S : Type 0} (g : Ghosts N P S) (planned : Planned P) (ran : Option (NetValue N)) where
  pub net_as_asked : (a b : ReplayOptions) (p q : List Pair) (input : Option (List ℕ)) → ◌≡◌ {A = Option Request} (Some (Replay a p)) (Some (Replay b q))
      → HoldsNetOfTasks g planned p input ran → HoldsNetOfTasks g planned q input ran
  net_as_asked a b p q input e h = subst (λ (ps : List Pair). HoldsNetOfTasks g planned ps input ran) (same_pairs a b p q e) h

  pub samples_as_asked : (m a b : ℕ) (p q : List Pair) → m ≡ a → ◌≡◌ {A = Option Request} (Some (Summarize a p)) (Some (Summarize b q))
      → HoldsNetOfSamples g planned p m ran → HoldsNetOfSamples g planned q b ran
  samples_as_asked m a b p q n e h =
      subst (λ (k : ℕ). HoldsNetOfSamples g planned q k ran) (n ∙ same_number a b p q e) (subst (λ (ps : List Pair). HoldsNetOfSamples g planned ps m ran) (same_tasks a b p q e) h)
