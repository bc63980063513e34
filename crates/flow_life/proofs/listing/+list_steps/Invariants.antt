use Rattle.std.proofs.Common.{length}
use Rattle.flow_life.proofs.listing.+list_steps.Given as goal

abbrev pub decreases-list_steps : goal.decreases-list_steps
decreases-list_steps g l = length l.cells.now
