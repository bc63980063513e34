use Rattle.select_nodes.proofs.GroupLaws.{same_group}
use Rattle.select_nodes.proofs.laws.results_are_of_their_group.Goals as goal

pub returns : goal.returns
returns c = same_group
