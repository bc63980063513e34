use Rattle.std.proofs.Common.{length}
use Rattle.flow_life.proofs.loads.+has_stream.Given as goal

abbrev pub decreases-has_stream : goal.decreases-has_stream
decreases-has_stream g l = length l.cells.now
