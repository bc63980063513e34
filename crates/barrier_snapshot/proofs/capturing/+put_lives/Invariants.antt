use Rattle.std.proofs.Common.{length}
use Rattle.barrier_snapshot.proofs.capturing.+put_lives.Given as goal

abbrev pub decreases-put_lives : goal.decreases-put_lives
decreases-put_lives g l = length l.lives.now
