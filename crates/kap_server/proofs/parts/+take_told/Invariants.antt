use Rattle.std.proofs.Common.{length}
use Rattle.kap_server.proofs.parts.+take_told.Given as goal

abbrev pub decreases-take_told : goal.decreases-take_told
decreases-take_told g l = length l.parts.now
