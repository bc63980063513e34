use Rattle.barrier_snapshot.proofs.GoingOnLaws.{gone_on}
use Rattle.barrier_snapshot.proofs.laws.cells_go_on.Goals as goal

pub returns : goal.returns
returns g c = λ upto passed cell s keeps was. gone_on g.N.Node upto passed cell s keeps was
