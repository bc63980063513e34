use Rattle.std.proofs.Common.{length}
use Rattle.barrier_snapshot.proofs.loading.+count.Given as goal

abbrev pub decreases-count : goal.decreases-count
decreases-count g l = length l.plans.now
