use Rattle.std.proofs.Common.{take}
use Rattle.select_nodes.specs.Picks.{values_at}
use Rattle.select_nodes.specs.Steps.{Told}
use Rattle.select_nodes.proofs.distinct.distinct.Given as goal

-- the values at the points that were passed are told
abbrev pub invariant-telling : goal.invariant-telling
invariant-telling l = Told l.tmax (values_at l.field (take l.point-index l.points)) l.seen.keys l.picks.items
