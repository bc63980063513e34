use Rattle.std.proofs.Common.{length}
use Rattle.kap_server.proofs.words.+replay_request.Given as goal

abbrev pub decreases-replay_request : goal.decreases-replay_request
decreases-replay_request l = length l.words.now
