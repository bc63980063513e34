use Rattle.std.proofs.Common.{length}
use Rattle.flow_tests.proofs.steps.+are_made.Given as goal

abbrev pub decreases-are_made : goal.decreases-are_made
decreases-are_made g l = length l.steps.now
