use Rattle.std.proofs.Common.{length}
use Rattle.flow_core.proofs.lives.+dropped.Given as goal

abbrev pub decreases-dropped : goal.decreases-dropped
decreases-dropped g l = length l.lives.now
