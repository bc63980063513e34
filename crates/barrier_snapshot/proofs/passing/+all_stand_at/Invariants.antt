use Rattle.std.proofs.Common.{length}
use Rattle.barrier_snapshot.proofs.passing.+all_stand_at.Given as goal

abbrev pub decreases-all_stand_at : goal.decreases-all_stand_at
decreases-all_stand_at g l = length l.lives.now
