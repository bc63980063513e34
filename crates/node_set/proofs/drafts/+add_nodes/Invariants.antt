use Rattle.std.proofs.Common.{length}
use Rattle.node_set.proofs.drafts.+add_nodes.Given as goal

abbrev pub decreases-add_nodes : goal.decreases-add_nodes
decreases-add_nodes g l = length l.nodes.rest.items
