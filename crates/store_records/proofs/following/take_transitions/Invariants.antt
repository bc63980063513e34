use Rattle.std.proofs.Common.{length}
use Rattle.store_records.proofs.FollowLaws.{Taking}
use Rattle.store_records.proofs.following.take_transitions.Given as goal

abbrev pub invariant-taking : goal.invariant-taking
invariant-taking l = Taking l.fn.topics l.fn.count l.transitions l.topics l.count l.rest

abbrev pub decreases-taking : goal.decreases-taking
decreases-taking l = length l.rest
