use Rattle.std.proofs.Common.{length}
use Rattle.flow_core.proofs.making.+add_cells.Given as goal

abbrev pub decreases-add_cells : goal.decreases-add_cells
decreases-add_cells g l = length l.parents.now
