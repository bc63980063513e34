use Rattle.std.proofs.Common.{◌≡◌, length, take}
use Rattle.select_nodes.specs.Picks.{values_at}
use Rattle.select_nodes.proofs.picks.count_all.Given as goal

-- the number at the points that were passed
abbrev pub invariant-counting : goal.invariant-counting
invariant-counting l = l.count ≡ length (values_at l.field (take l.point-index l.points))
