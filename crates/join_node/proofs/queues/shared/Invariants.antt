use Rattle.std.proofs.Common.{◌≡◌, ◌++◌}
use Rattle.join_node.proofs.queues.shared.Given as goal

-- the other points are still to come
abbrev pub invariant-sharing : goal.invariant-sharing
invariant-sharing l = l.shared.items ++ l.point-iterator.rest.items ≡ l.fn.points.items
