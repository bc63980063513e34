use Rattle.std.proofs.Common.{length}
use Rattle.barrier_snapshot.proofs.passing.+are_behind.Given as goal

abbrev pub decreases-are_behind : goal.decreases-are_behind
decreases-are_behind g l = length l.cells.now
