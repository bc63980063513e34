use Rattle.barrier_snapshot.proofs.StandNetLaws.{begun_planned, loaded_planned, made_planned}
use Rattle.barrier_snapshot.proofs.laws.lives_are_planned.Goals as goal

pub returns-clause-begun : goal.returns-clause-begun
returns-clause-begun g c = begun_planned g.N.Node

pub returns-clause-made : goal.returns-clause-made
returns-clause-made g c = made_planned g.N.Node

pub returns-clause-loaded : goal.returns-clause-loaded
returns-clause-loaded g c = loaded_planned g.N.Node
