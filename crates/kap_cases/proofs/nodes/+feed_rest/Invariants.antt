use Rattle.std.proofs.Common.{length}
use Rattle.kap_cases.proofs.nodes.+feed_rest.Given as goal

abbrev pub decreases-feed_rest : goal.decreases-feed_rest
decreases-feed_rest g l = length l.rest.rest.items
