use Rattle.std.proofs.Common.{length}
use Rattle.flow_core.proofs.listing.+list_onward.Given as goal

abbrev pub decreases-list_onward : goal.decreases-list_onward
decreases-list_onward g l = length l.lives.now
