use Rattle.std.proofs.Common.{length}
use Rattle.barrier_snapshot.proofs.capturing.+count.Given as goal

abbrev pub decreases-count : goal.decreases-count
decreases-count g l = length l.lives.now
