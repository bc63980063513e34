use Rattle.std.proofs.Common.{◌≡◌, ◌++◌, drop, take}
use Rattle.join_node.specs.Queues.{emptied}
use Rattle.join_node.proofs.queues.empty.Given as goal

-- the queues that were passed are without points
abbrev pub invariant-emptying : goal.invariant-emptying
invariant-emptying l = l.queues ≡ emptied (take l.queue-index l.fn.queues) ++ drop l.queue-index l.fn.queues
