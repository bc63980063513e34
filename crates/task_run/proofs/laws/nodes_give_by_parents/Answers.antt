use Rattle.task_run.proofs.OrderLaws.{gives_by_parents, outs_are_streams}
use Rattle.task_run.proofs.laws.nodes_give_by_parents.Goals as goal

pub returns-clause-parents : goal.returns-clause-parents
returns-clause-parents g c = gives_by_parents g.N.Node.answer g.N.Node.life g.N.Node.number g.met.N.Node.stamped

pub returns-clause-streams : goal.returns-clause-streams
returns-clause-streams g c = outs_are_streams g.N.Node.answer g.N.Node.life g.N.Node.number g.met.N.Node.stamped
