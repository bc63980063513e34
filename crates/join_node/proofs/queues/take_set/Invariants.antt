use Rattle.std.proofs.Common.{◌≡◌, ◌++◌, drop, take}
use Rattle.join_node.specs.Queues.{rests}
use Rattle.join_node.specs.Sets.{set_at}
use Rattle.join_node.proofs.queues.take_set.Given as goal

-- the first points of the queues that were passed are in the set
abbrev pub invariant-taking : goal.invariant-taking
invariant-taking l = record {
  set : l.set.items ≡ set_at 0 (take l.queue-index l.fn.queues);
  queues : l.queues ≡ rests (take l.queue-index l.fn.queues) ++ drop l.queue-index l.fn.queues;
}
