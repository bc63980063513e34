use Rattle.std.proofs.Common.{length}
use Rattle.flow_core.proofs.lives.+step.Given as goal

abbrev pub decreases-step : goal.decreases-step
decreases-step g l = length l.lives.now
