use Rattle.std.proofs.Common.{length}
use Rattle.flow_life.proofs.gathering.+gather_cells.Given as goal

abbrev pub decreases-gather_cells : goal.decreases-gather_cells
decreases-gather_cells g l = length l.cells.now
