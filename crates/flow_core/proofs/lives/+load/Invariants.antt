use Rattle.std.proofs.Common.{length}
use Rattle.flow_core.proofs.lives.+load.Given as goal

abbrev pub decreases-load : goal.decreases-load
decreases-load g l = length l.lives.now
