use Rattle.barrier_snapshot.proofs.CollectLaws.{behind_collected, behind_in_order, same_collected, same_in_order}
use Rattle.barrier_snapshot.proofs.laws.nets_collect_alike.Goals as goal

pub returns-clause-behind : goal.returns-clause-behind
returns-clause-behind g c = behind_collected g.N.Node

pub returns-clause-in_order : goal.returns-clause-in_order
returns-clause-in_order g c = behind_in_order g.N.Node

pub returns-clause-same : goal.returns-clause-same
returns-clause-same g c = same_collected g.N.Node

pub returns-clause-same_in_order : goal.returns-clause-same_in_order
returns-clause-same_in_order g c = same_in_order g.N.Node
