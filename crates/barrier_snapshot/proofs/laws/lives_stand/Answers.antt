use Rattle.barrier_snapshot.proofs.StandLaws.{begun_stands, made_stand}
use Rattle.barrier_snapshot.proofs.StandNetLaws.{rested_stand, restored_stand}
use Rattle.barrier_snapshot.proofs.laws.lives_stand.Goals as goal

pub returns-clause-begun : goal.returns-clause-begun
returns-clause-begun g c = begun_stands g.N.Node

pub returns-clause-made : goal.returns-clause-made
returns-clause-made g c = made_stand g.N.Node

pub returns-clause-loaded : goal.returns-clause-loaded
returns-clause-loaded g c = rested_stand g.N.Node g.met.N.Node.folds g.met.N.Node.stamped

pub returns-clause-restored : goal.returns-clause-restored
returns-clause-restored g c = restored_stand g.N.Node g.met.N.Node.folds g.met.N.Node.stamped g.met.N.Node.spelled
