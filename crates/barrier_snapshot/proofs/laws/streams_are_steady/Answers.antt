use Rattle.barrier_snapshot.proofs.SteadyLaws.{loaded_steady, same_steady}
use Rattle.barrier_snapshot.proofs.laws.streams_are_steady.Goals as goal

pub returns-clause-loaded : goal.returns-clause-loaded
returns-clause-loaded g c = λ upto msgs plans lives after are steady has planned specs. loaded_steady g.N.Node upto msgs plans lives after are steady has planned specs

pub returns-clause-same : goal.returns-clause-same
returns-clause-same g c = λ upto lives after planned specs steady. same_steady g.N.Node upto lives after planned specs steady
