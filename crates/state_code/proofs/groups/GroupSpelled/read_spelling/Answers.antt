use Rattle.std.proofs.Common.{sym}
use Rattle.state_code.proofs.PointLaws.{group_of_tests}
use Rattle.state_code.proofs.groups.GroupSpelled.read_spelling.Goals as goal

pub invariant_of-result : goal.invariant_of-result
invariant_of-result c = group_of_tests _ _ _ (sym c.if-not-are_group.ensures)
