use Rattle.join_node.proofs.OwnSetLaws.{in_own_set}
use Rattle.join_node.proofs.laws.points_are_in_their_sets.Goals as goal

pub returns : goal.returns
returns c = in_own_set
