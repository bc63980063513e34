use Rattle.barrier_snapshot.proofs.SnapshotLaws.{lives_are_captured, lives_are_restored, lives_came, net_restored}
use Rattle.barrier_snapshot.proofs.snapshots.snapshots_are_whole.Goals as goal

pub returns-clause-restored : goal.returns-clause-restored
returns-clause-restored g c = lives_are_restored g.N.Node g.met.N.Node.spelled

pub returns-clause-stands : goal.returns-clause-stands
returns-clause-stands g c = net_restored g.N.Node g.met.N.Node.spelled

pub returns-clause-came : goal.returns-clause-came
returns-clause-came g c = lives_came g.N.Node

pub returns-clause-captured : goal.returns-clause-captured
returns-clause-captured g c = lives_are_captured g.N.Node g.met.N.Node.folds g.met.N.Node.stamped
