use Rattle.std.proofs.Common.{length}
use Rattle.flow_core.proofs.lives.+at_rest.Given as goal

abbrev pub decreases-at_rest : goal.decreases-at_rest
decreases-at_rest g l = length l.lives.now
