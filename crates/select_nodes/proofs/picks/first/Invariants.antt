use Rattle.std.proofs.Common.{◌≡◌, length}
use Rattle.select_nodes.specs.Picks.{first, picks_at}
use Rattle.select_nodes.proofs.picks.first.Given as goal

-- the first is among the points that are left
abbrev pub invariant-seeking : goal.invariant-seeking
invariant-seeking l = first (picks_at l.field l.left) ≡ first (picks_at l.field l.points)

abbrev pub decreases-seeking : goal.decreases-seeking
decreases-seeking l = length l.left
