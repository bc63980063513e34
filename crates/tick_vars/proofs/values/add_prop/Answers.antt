use Rattle.std.proofs.Common.{rules}
use Rattle.tick_vars.proofs.NodeLaws.{prop_set, prop_beyond}
use Rattle.tick_vars.specs.Nodes.{prop_tree}
use Rattle.tick_vars.proofs.values.add_prop.Goals as goal

pub returns-in_ok-push : goal.returns-in_ok-push
returns-in_ok-push c =
    prop_set c.args.nodes.now c.args.number c.args.prop c.index-nodes-index.result c.push.new.self (search rules) (c.in_ok-push.ensures.ok)

pub returns-else-index-nodes : goal.returns-else-index-nodes
returns-else-index-nodes c = prop_beyond c.args.nodes.now c.args.number (prop_tree c.args.prop) (search rules)
