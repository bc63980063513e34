use Rattle.std.proofs.Common.{length}
use Rattle.barrier_snapshot.proofs.loading.+load_lives.Given as goal

abbrev pub decreases-load_lives : goal.decreases-load_lives
decreases-load_lives g l = length l.rest.rest.items
