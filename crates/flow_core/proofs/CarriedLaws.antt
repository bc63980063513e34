-- The edges of new lives have carried what their nodes give out for no points.
use Rattle.std.proofs.Common.{◌≡◌, List, [], ◌∷◌, false, map, sym, ap, ◌∙◌}
use Rattle.std.specs.List.{AllByRecursion as Each, AllZip}
use Rattle.node_core.specs.declared.node.Node.{Ghosts}
use Rattle.merge_node.specs.Merge.{items}
use Rattle.flow_cells.specs.Outs.{item_msgs}
use Rattle.task_run.specs.Plans.{PlanValue, graph_of}
use Rattle.flow_core.specs.Carried.{HasCarried, LifeHasCarried}
use Rattle.flow_core.specs.Making.{AreLivesOf, IsLifeOf}
use Rattle.flow_core.specs.Nets.{IsResting, NetValue, NumberedLife}
use Rattle.flow_core.proofs.LifeLaws.{graph_behind}
use Rattle.flow_core.proofs.OutLaws.{nothing-out}
use Rattle.flow_core.proofs.ReceivedLaws.{untouched_in}

module _ {N P S : Type 0} (g : Ghosts N P S) where
  new-carried : (plan : PlanValue N) (l : NumberedLife N) → IsLifeOf g plan l → LifeHasCarried g [] (graph_of g.spec plan) l
  new-carried plan l is = record {
    nodes_are = graph_behind g 0 plan l is;
    edges = λ j k e at.
        ap items (untouched_in l.life.cells j k e is.empty at) ∙ ap item_msgs (sym (nothing-out g.answer [] (graph_of g.spec plan) e.from));
  }

  news-carried : (plans : List (PlanValue N)) (lives : List (NumberedLife N)) → AreLivesOf g plans lives → AllZip (LifeHasCarried g []) (map (graph_of g.spec) plans) lives
  news-carried [] [] are = tt
  news-carried [] (l ∷ lives) are = absurd are
  news-carried (p ∷ ps) [] are = absurd are
  news-carried (p ∷ ps) (l ∷ lives) are = (new-carried p l are.0, news-carried ps lives are.1)

  pub new_carried : (plans : List (PlanValue N)) (net : NetValue N) → AreLivesOf g plans net.lives → net.spent ≡ false → Each IsResting net.lives → HasCarried g (map (graph_of g.spec) plans) [] net
  new_carried plans net are unspent quiet = record { unspent = unspent; rest = quiet; lives_are = news-carried plans net.lives are }
