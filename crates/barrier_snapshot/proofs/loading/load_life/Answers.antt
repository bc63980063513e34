use Rattle.std.proofs.Common.{◌≡◌, ◌∙◌, ap, map}
use Rattle.barrier_snapshot.proofs.LifeLaws.{same_plan}
use Rattle.barrier_snapshot.proofs.loading.load_life.Goals as goal

pub invariant_of-result : goal.invariant_of-result
invariant_of-result g c =
    let node = g.N.Node in
    let e : map node.spec c.from_items.result ≡ map node.spec c.plan.inside.nodes = ap (map node.spec) c.from_items.ensures ∙ c.in_ok-load_all.ensures.specs ∙ ap (map node.spec) c.into_items-nodes.ensures in
    same_plan node.spec node.ports node.life node.number c.plan.inside.life c.plan.inside.nodes c.from_items.result c.plan.inside.parents e c.plan.invariant
