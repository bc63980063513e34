use Rattle.std.proofs.Common.{length}
use Rattle.node_workers.proofs.sharing.+share_lives.Given as goal

abbrev pub decreases-share_lives : goal.decreases-share_lives
decreases-share_lives g l = length l.lives.now
