use Rattle.barrier_snapshot.proofs.BehindLaws.{restored_passed}
use Rattle.barrier_snapshot.proofs.ReadLaws.{one_capture}
use Rattle.barrier_snapshot.proofs.SavedLaws.{restored_were}
use Rattle.barrier_snapshot.proofs.laws.captures_are_restored.Goals as goal

pub returns-clause-one : goal.returns-clause-one
returns-clause-one g c = λ specs states others bytes a b. one_capture g.met.N.Node.spelled specs states others bytes a b

pub returns-clause-same : goal.returns-clause-same
returns-clause-same g c = λ upto cells plans there bytes net specs at restores. restored_were g.N.Node g.met.N.Node.spelled upto cells bytes plans there net specs at restores

pub returns-clause-passed : goal.returns-clause-passed
returns-clause-passed g c = restored_passed g.N.Node
