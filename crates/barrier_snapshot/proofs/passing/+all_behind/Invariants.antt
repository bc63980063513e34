use Rattle.std.proofs.Common.{length}
use Rattle.barrier_snapshot.proofs.passing.+all_behind.Given as goal

abbrev pub decreases-all_behind : goal.decreases-all_behind
decreases-all_behind g l = length l.lives.now
