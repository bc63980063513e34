use Rattle.std.proofs.Common.{◌≡◌, take}
use Rattle.select_nodes.specs.Choices.{sum_in}
use Rattle.select_nodes.specs.Picks.{readings_at}
use Rattle.select_nodes.proofs.readings.sum.Given as goal

-- the sum of the points that were passed
abbrev pub invariant-adding : goal.invariant-adding
invariant-adding l = l.sum ≡ sum_in (readings_at l.field (take l.point-index l.points))
