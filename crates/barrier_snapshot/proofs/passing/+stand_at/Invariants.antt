use Rattle.std.proofs.Common.{length}
use Rattle.barrier_snapshot.proofs.passing.+stand_at.Given as goal

abbrev pub decreases-stand_at : goal.decreases-stand_at
decreases-stand_at g l = length l.cells.now
