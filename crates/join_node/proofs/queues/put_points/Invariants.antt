use Rattle.std.proofs.Common.{[], take}
use Rattle.state_code.specs.Points.{FitsPoint, spell_point}
use Rattle.state_code.proofs.Loops.{Put}
use Rattle.join_node.proofs.queues.put_points.Given as goal

abbrev pub invariant-putting : goal.invariant-putting
invariant-putting l = Put FitsPoint spell_point l.fn.to [] (take l.point-index l.points) l.to
