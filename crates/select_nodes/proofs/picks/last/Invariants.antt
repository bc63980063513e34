use Rattle.std.proofs.Common.{◌≡◌, length, None}
use Rattle.std.specs.List.{last_or}
use Rattle.select_nodes.specs.Picks.{picks_at}
use Rattle.select_nodes.proofs.picks.last.Given as goal

-- the last is among the points that are left
abbrev pub invariant-seeking : goal.invariant-seeking
invariant-seeking l = last_or None (picks_at l.field l.left) ≡ last_or None (picks_at l.field l.points)

abbrev pub decreases-seeking : goal.decreases-seeking
decreases-seeking l = length l.left
