use Rattle.std.proofs.Common.{length}
use Rattle.kap_server.proofs.readying.+add_tasks.Given as goal

abbrev pub decreases-add_tasks : goal.decreases-add_tasks
decreases-add_tasks g l = length l.words.now
