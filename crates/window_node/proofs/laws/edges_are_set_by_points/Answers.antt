use Rattle.window_node.proofs.WaitingLaws.{edge_waits, points_before}
use Rattle.window_node.proofs.laws.edges_are_set_by_points.Goals as goal

pub returns-clause-waits : goal.returns-clause-waits
returns-clause-waits c = edge_waits

pub returns-clause-before : goal.returns-clause-before
returns-clause-before c = points_before
