use Rattle.flow_core.proofs.NetLaws.{net_stays}
use Rattle.node_workers.proofs.epochs.finish.Goals as goal

pub returns-then-at_rest-clause-goes : goal.returns-then-at_rest-clause-goes
returns-then-at_rest-clause-goes g c = net_stays g.N.Node c.args.net.now
