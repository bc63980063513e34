use Rattle.std.proofs.Common.{◌≡◌, ◌++◌, List, false, length, map, refl, sym, ap, subst, ◌∙◌}
use Rattle.kap_base.specs.Points.{PointValue}
use Rattle.kap_base.specs.declared.items.Stamp.{Stamp}
use Rattle.task_run.specs.Courses.{from_first, later_effects}
use Rattle.task_run.specs.Plans.{graph_of}
use Rattle.flow_core.proofs.RoomLaws.{same_room}
use Rattle.net_run.specs.Epochs.{Stands}
use Rattle.net_run.specs.Runs.{NetRunValue}
use Rattle.net_run.specs.Trails.{points_of}
use Rattle.net_run.proofs.runs.NetRun.run_on.Goals as goal

pub invariant_of-self-2 : goal.invariant_of-self-2
invariant_of-self-2 g c = λ e.
    let node = g.N.Node in
    let nodes = map (graph_of node.spec) c.self.inside.plans.value.items in
    let before = points_of c.self.inside.trail in
    let fresh : c.self.inside.spent ≡ false = ap (λ (r : NetRunValue g.row.N-Spec.Denot). r.spent) c.self.view_is ∙ c.requires in
    let stood = (c.self.invariant fresh).1 in
    let all : points_of c.of.result.value ++ c.of-2.result.value.items ≡ before ++ c.args.points.now.items = rw (c.of.ensures, c.of-2.ensures) refl in (
      ap (λ (t : Stamp). t.0) (sym c.in_ok-effects.ensures.last),
      subst (λ (ps : List PointValue). Stands node nodes ps c.run_shared.new.net) (sym all) (rw c.as_slice.ensures.value at (c.in_ok-effects.ensures.stands nodes before stood)),
      same_room c.self.inside.capacity.value _ _ c.in_ok-effects.ensures.rooms (c.self.invariant fresh).2,
    )

pub returns-clause-effects : goal.returns-clause-effects
returns-clause-effects g c =
    let node = g.N.Node in
    let nodes = map (graph_of node.spec) c.self.inside.plans.value.items in
    let before = points_of c.self.inside.trail in
    let fresh : c.self.inside.spent ≡ false = ap (λ (r : NetRunValue g.row.N-Spec.Denot). r.spent) c.self.view_is ∙ c.requires in
    let stood = (c.self.invariant fresh).1 in
    rw c.as_slice.ensures.value at (c.in_ok-effects.ensures.effects nodes before stood)
    ∙ ap (λ (r : NetRunValue g.row.N-Spec.Denot). later_effects node.answer (length r.points) (length c.args.points.now.items) (from_first (r.points ++ c.args.points.now.items) r.lives)) c.self.view_is
