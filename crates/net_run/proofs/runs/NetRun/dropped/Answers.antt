use Rattle.std.proofs.Common.{◌≡◌, false, map, ap, ◌∙◌}
use Rattle.task_run.specs.Lives.{dropped_of}
use Rattle.task_run.specs.Plans.{graph_of}
use Rattle.flow_core.proofs.LivesLaws.{if_ok}
use Rattle.net_epochs.proofs.CarryLaws.{lives_dropped}
use Rattle.net_run.specs.Runs.{NetRunValue}
use Rattle.net_run.specs.Trails.{points_of}
use Rattle.net_run.proofs.runs.NetRun.dropped.Goals as goal

pub returns : goal.returns
returns g c =
    let node = g.N.Node in
    let met = g.met.N.Node g.world.𝓛 g.world.𝓜 g.world.𝓡 (λ s x. x, λ x. x, λ x. x, λ x. x) in
    let fresh : c.self.inside.spent ≡ false = ap (λ (r : NetRunValue g.row.N-Spec.Denot). r.spent) c.self.view_is ∙ c.requires in
    let stood = (c.self.invariant fresh).1 in
    if_ok c.counts.result
    (λ counts is. is
    ∙ lives_dropped node met.stamped met.folds met.counts (points_of c.self.inside.trail) (map (graph_of node.spec) c.self.inside.plans.value.items) _ stood.lives
    ∙ ap (λ (r : NetRunValue g.row.N-Spec.Denot). dropped_of node.answer r.lives r.points) c.self.view_is)
    c.counts.ensures
