use Rattle.std.proofs.Common.{length}
use Rattle.flow_cells.proofs.loads.+begin_ins.Given as goal

abbrev pub decreases-begin_ins : goal.decreases-begin_ins
decreases-begin_ins l = length l.ins.now
