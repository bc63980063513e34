use Rattle.std.proofs.Common.{length}
use Rattle.flow_core.proofs.lives.+keep_lives.Given as goal

abbrev pub decreases-keep_lives : goal.decreases-keep_lives
decreases-keep_lives g l = length l.lives.now
