use Rattle.std.proofs.Common.{◌≡◌, length}
use Rattle.join_node.specs.Queues.{is_ready}
use Rattle.join_node.proofs.queues.are_ready.Given as goal

-- whether each queue has a point is for the rest to say
abbrev pub invariant-passing : goal.invariant-passing
invariant-passing l = is_ready l.rest ≡ is_ready l.queues

abbrev pub decreases-passing : goal.decreases-passing
decreases-passing l = length l.rest
