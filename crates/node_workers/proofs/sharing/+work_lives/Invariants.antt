use Rattle.std.proofs.Common.{length}
use Rattle.node_workers.proofs.sharing.+work_lives.Given as goal

abbrev pub decreases-work_lives : goal.decreases-work_lives
decreases-work_lives g l = length l.lives.now
