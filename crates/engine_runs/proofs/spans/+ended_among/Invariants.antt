use Rattle.std.proofs.Common.{length}
use Rattle.engine_runs.proofs.spans.+ended_among.Given as goal

abbrev pub decreases-ended_among : goal.decreases-ended_among
decreases-ended_among g l = length l.net.now
