use Rattle.std.proofs.Common.{length}
use Rattle.barrier_snapshot.proofs.loading.+load_nodes.Given as goal

abbrev pub decreases-load_nodes : goal.decreases-load_nodes
decreases-load_nodes g l = length l.nodes.now
