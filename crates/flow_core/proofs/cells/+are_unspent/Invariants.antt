use Rattle.std.proofs.Common.{length}
use Rattle.flow_core.proofs.cells.+are_unspent.Given as goal

abbrev pub decreases-are_unspent : goal.decreases-are_unspent
decreases-are_unspent g l = length l.lives.now
