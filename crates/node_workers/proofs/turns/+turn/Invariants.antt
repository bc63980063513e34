use Rattle.std.proofs.Common.{length}
use Rattle.node_workers.proofs.turns.+turn.Given as goal

abbrev pub decreases-turn : goal.decreases-turn
decreases-turn g l = length l.cells.now
