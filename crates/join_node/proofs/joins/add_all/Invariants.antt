use Rattle.std.proofs.Common.{◌≡◌, ◌++◌, flat_map, length}
use Rattle.join_node.specs.Queues.{emptied}
use Rattle.join_node.specs.Results.{result_of}
use Rattle.join_node.specs.Sets.{sets}
use Rattle.join_node.proofs.joins.add_all.Given as goal

-- the results of the other sets are still to come
abbrev pub invariant-adding : goal.invariant-adding
invariant-adding l = record {
  bodies : l.bodies ++ flat_map (result_of l.join l.time) (sets l.queues) ≡ l.fn.bodies ++ flat_map (result_of l.join l.time) (sets l.fn.queues);
  queues : emptied l.queues ≡ emptied l.fn.queues;
}

abbrev pub decreases-adding : goal.decreases-adding
decreases-adding l = length (sets l.queues)
