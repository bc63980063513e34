use Rattle.std.proofs.Common.{◌≡◌, ◌++◌, drop}
use Rattle.tick_compile.specs.Nodes.{nodes_above, nodes_in}
use Rattle.tick_compile.proofs.nodes.nodes_above.Given as goal

abbrev pub invariant-adding : goal.invariant-adding
invariant-adding g l = l.ids ++ nodes_in (drop l.given-index l.node.args) ≡ nodes_above l.node
