use Rattle.barrier_snapshot.proofs.PlaceOfFaultLaws.{no_place, one_place}
use Rattle.barrier_snapshot.proofs.laws.faults_have_places.Goals as goal

pub returns-clause-one : goal.returns-clause-one
returns-clause-one g c = λ specs bytes a b one other. one_place g.met.N.Node.spelled specs bytes a b one other

pub returns-clause-none : goal.returns-clause-none
returns-clause-none g c = λ specs states bytes offset capture fault. no_place g.met.N.Node.spelled specs states bytes offset capture fault
