use Rattle.std.proofs.Common.{length, subst, sym, List, ℕ, ◌≤◌}
use Rattle.std.specs.List.{AllByRecursion as Each}
use Rattle.task_graph.specs.declared.graph.TheConstants.{PARENT_LIMIT}
use Rattle.node_set.proofs.DraftLaws.{few, few_parents, whole_begin, whole_nodes, whole_plan}
use Rattle.node_set.proofs.tasks.plan_task.Goals as goal

pub add_nodes-requires : goal.add_nodes-requires
add_nodes-requires g c = rw (c.into_iter.ensures.rest, c.into_items-specs.ensures, c.into_specs.ensures.same) (few c.args.graph c.into_specs.ensures.graph)

pub invariant_of-result : goal.invariant_of-result
invariant_of-result g c =
    let adds = rw (c.into_iter.ensures.rest, c.into_items-specs.ensures, c.into_specs.ensures.same, c.new-draft.ensures, ← c.draft.view_is) at c.in_ok-add_nodes.ensures in
    rw (c.from_items.ensures, c.from_items-2.ensures) (whole_plan _ _ _ _ _ c.args.life c.args.graph _ adds _ _ _ g.met.N.ScriptNode.sits c.into_specs.ensures.graph)

pub returns-clause-nodes : goal.returns-clause-nodes
returns-clause-nodes g c =
    let adds = rw (c.into_iter.ensures.rest, c.into_items-specs.ensures, c.into_specs.ensures.same, c.new-draft.ensures, ← c.draft.view_is) at c.in_ok-add_nodes.ensures in
    rw (c.from_items.ensures, c.from_items-2.ensures) (whole_nodes _ _ _ _ _ c.args.life c.args.graph _ adds)

pub returns-clause-begin : goal.returns-clause-begin
returns-clause-begin g c =
    let adds = rw (c.into_iter.ensures.rest, c.into_items-specs.ensures, c.into_specs.ensures.same, c.new-draft.ensures, ← c.draft.view_is) at c.in_ok-add_nodes.ensures in
    rw c.from_items.ensures (whole_begin _ _ _ _ _ c.args.life c.args.graph _ adds)

pub returns-clause-few : goal.returns-clause-few
returns-clause-few g c =
    let adds = rw (c.into_iter.ensures.rest, c.into_items-specs.ensures, c.into_specs.ensures.same, c.new-draft.ensures, ← c.draft.view_is) at c.in_ok-add_nodes.ensures in
    rw c.from_items-2.ensures (subst (Each (λ (ps : List ℕ). length ps ≤ PARENT_LIMIT)) (sym adds.parents_are) (few_parents c.args.graph c.into_specs.ensures.graph))

pub returns-clause-plan : goal.returns-clause-plan
returns-clause-plan g c =
    let adds = rw (c.into_iter.ensures.rest, c.into_items-specs.ensures, c.into_specs.ensures.same, c.new-draft.ensures, ← c.draft.view_is) at c.in_ok-add_nodes.ensures in
    rw (c.from_items.ensures, c.from_items-2.ensures) (whole_plan _ _ _ _ _ c.args.life c.args.graph _ adds _ _ _ g.met.N.ScriptNode.sits c.into_specs.ensures.graph)
