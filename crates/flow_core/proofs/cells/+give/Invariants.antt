use Rattle.std.proofs.Common.{length}
use Rattle.flow_core.proofs.cells.+give.Given as goal

abbrev pub decreases-give : goal.decreases-give
decreases-give g l = length l.lives.now
