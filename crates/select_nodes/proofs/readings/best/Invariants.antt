use Rattle.std.proofs.Common.{◌≡◌, take}
use Rattle.select_nodes.specs.Picks.{first, readings_at}
use Rattle.select_nodes.specs.Ranks.{by_rank}
use Rattle.select_nodes.proofs.readings.best.Given as goal

-- the first by rank of the points that were passed
abbrev pub invariant-comparing : goal.invariant-comparing
invariant-comparing l = l.best ≡ first (by_rank l.rank (readings_at l.field (take l.point-index l.points)))
