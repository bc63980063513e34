use Rattle.std.proofs.Common.{length}
use Rattle.engine_runs.proofs.spans.+up_to_lasts.Given as goal

abbrev pub decreases-up_to_lasts : goal.decreases-up_to_lasts
decreases-up_to_lasts g l = length l.net.now
