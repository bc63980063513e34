use Rattle.std.proofs.Common.{to_z-of_z}
use Rattle.node_set.proofs.any.shift.Goals as goal

pub returns : goal.returns
returns c = rw (to_z-of_z c.ranges.by) at c.point.ensures
