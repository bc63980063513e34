use Rattle.std.proofs.Common.{length}
use Rattle.kap_server.proofs.words.+write_request.Given as goal

abbrev pub decreases-write_request : goal.decreases-write_request
decreases-write_request l = length l.words.now
