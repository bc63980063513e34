use Rattle.select_nodes.proofs.DistinctLaws.{distinct_more}
use Rattle.select_nodes.proofs.laws.values_are_told_once.Goals as goal

pub returns : goal.returns
returns c = distinct_more
