use Rattle.barrier_snapshot.proofs.BehindLaws.{loaded_kept, stand_passed}
use Rattle.barrier_snapshot.proofs.laws.states_are_kept.Goals as goal

pub returns-clause-behind : goal.returns-clause-behind
returns-clause-behind g c = stand_passed g.N.Node

pub returns-clause-inside : goal.returns-clause-inside
returns-clause-inside g c = loaded_kept g.N.Node
