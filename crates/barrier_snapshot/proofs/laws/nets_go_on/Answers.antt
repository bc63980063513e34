use Rattle.barrier_snapshot.proofs.AlikeLaws.{alike_lives}
use Rattle.barrier_snapshot.proofs.ResumeNetLaws.{did_the_rest}
use Rattle.barrier_snapshot.proofs.StandNetLaws.{captured_alike}
use Rattle.barrier_snapshot.proofs.laws.nets_go_on.Goals as goal

pub returns-clause-behind : goal.returns-clause-behind
returns-clause-behind g c = did_the_rest g.N.Node g.met.N.Node.folds g.met.N.Node.stamped g.met.N.Node.spelled

pub returns-clause-rest : goal.returns-clause-rest
returns-clause-rest g c = captured_alike g.N.Node g.met.N.Node.folds g.met.N.Node.stamped g.met.N.Node.spelled

pub returns-clause-same : goal.returns-clause-same
returns-clause-same g c = alike_lives g.N.Node
