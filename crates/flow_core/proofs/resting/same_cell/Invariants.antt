use Rattle.std.proofs.Common.{◌≡◌, ◌+◌}
use Rattle.flow_core.proofs.resting.same_cell.Given as goal

-- the first one and those that were passed
abbrev pub invariant-counting : goal.invariant-counting
invariant-counting l = l.count ≡ l.next-index + 1
