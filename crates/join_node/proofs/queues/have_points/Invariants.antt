use Rattle.std.proofs.Common.{◌≡◌, length}
use Rattle.join_node.specs.Queues.{has_points}
use Rattle.join_node.proofs.queues.have_points.Given as goal

-- whether some queue has a point is for the rest to say
abbrev pub invariant-passing : goal.invariant-passing
invariant-passing l = has_points l.rest ≡ has_points l.queues

abbrev pub decreases-passing : goal.decreases-passing
decreases-passing l = length l.rest
