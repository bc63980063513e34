use Rattle.std.proofs.Common.{◌≡◌, [], replicate}
use Rattle.join_node.proofs.queues.no_queues.Given as goal

abbrev pub invariant-adding : goal.invariant-adding
invariant-adding l = l.queues.items ≡ replicate l.counter []
