use Rattle.std.proofs.Common.{length}
use Rattle.kap_server.proofs.parts.+run_in_turn.Given as goal

abbrev pub decreases-run_in_turn : goal.decreases-run_in_turn
decreases-run_in_turn g l = length l.parts.now
