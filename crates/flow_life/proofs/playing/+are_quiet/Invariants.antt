use Rattle.std.proofs.Common.{length}
use Rattle.flow_life.proofs.playing.+are_quiet.Given as goal

abbrev pub decreases-are_quiet : goal.decreases-are_quiet
decreases-are_quiet g l = length l.cells.now
