use Rattle.std.proofs.Common.{◌≡◌, take}
use Rattle.select_nodes.specs.Picks.{readings_at}
use Rattle.select_nodes.proofs.readings.readings_at.Given as goal

abbrev pub invariant-reading : goal.invariant-reading
invariant-reading l = l.readings.items ≡ readings_at l.field (take l.point-index l.points)
