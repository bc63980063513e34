use Rattle.std.proofs.Common.{length}
use Rattle.flow_life.proofs.loads.+load_cells.Given as goal

abbrev pub decreases-load_cells : goal.decreases-load_cells
decreases-load_cells g l = length l.cells.now
