use Rattle.std.proofs.Common.{reverse, ap, subst, sym, ◌∙◌}
use Rattle.std.proofs.lemmas.List.{reverse-reverse}
use Rattle.flow_core.specs.Making.{HasFewParents}
use Rattle.flow_core.proofs.PlanLaws.{plan_can}
use Rattle.flow_core.proofs.making.life_of.Goals as goal

pub add_cells-requires-clause-can : goal.add_cells-requires-clause-can
add_cells-requires-clause-can g c =
    let node = g.N.Node in
    let few = subst HasFewParents (sym c.plan.view_is) c.requires.few in
    let can = plan_can node.spec node.ports node.life node.number c.plan.inside.life 0 c.plan.inside.nodes c.plan.inside.parents c.plan.invariant.nodes few in
    let nodes = ap reverse (c.reverse.ensures.items) ∙ reverse-reverse c.into_items-nodes.result.items ∙ c.into_items-nodes.ensures in
    let parents = c.deref.ensures.value ∙ c.into_items-parents.ensures in
    rw (c.new-life.ensures.cells, nodes, parents) can
