-- Windows by the number of points.
use Rattle.std.specs.Prelude.{ℕ, ◌+◌, ◌-◌, ◌%◌, ◌==◌, nat_le, nat_lt, ◌&&◌, Bool, if◌then◌else◌, List, [], ◌∷◌, ◌++◌, length}
use Rattle.kap_base.specs.Points.{PointValue}
use Rattle.node_core.specs.declared.said.Said.{Said}
use Rattle.node_core.specs.Groups.{Came, GroupAnswer}
use Rattle.node_core.specs.Meaning.{Turn, silence}
use Rattle.window_node.specs.declared.counted.CountedWindow.{CountedWindow}
use Rattle.window_node.specs.Batches.{points_in, batch_at, last}

-- A batch is emitted at the point of this number, of which the first is 1: with m as everyCount at m, 2m, 3m and so on;
-- and with fillPeriod, where n is periodCount, at n, n + m, n + 2m and so on instead.
abbrev pub is_due : CountedWindow → ℕ → Bool
is_due w number =
    if w.fill_period then nat_le w.period_count number && ((number - w.period_count) % w.every_count == 0)
    else number % w.every_count == 0

-- the batch that the point of this number causes: of the points up to it the last ones
abbrev pub counted : CountedWindow → ℕ → PointValue → List PointValue → Said
counted w number p ps = if is_due w number then batch_at p p.time (last w.period_count ps) else silence

-- what is said of a point, by all points of its group before it
abbrev pub points_say : CountedWindow → List PointValue → PointValue → Said
points_say w before p = counted w (length before + 1) p (before ++ p ∷ [])

-- what is said of a point, by the points of its group before it
abbrev pub counted_says : CountedWindow → GroupAnswer
counted_says w before port p = points_say w (points_in before) p

-- ---- what is kept of a group

-- how many points are still to come up to the next batch, behind so many
abbrev pub to_come : CountedWindow → ℕ → ℕ
to_come w seen =
    if w.fill_period
    then (if nat_lt seen w.period_count then w.period_count - seen
    else w.every_count - (seen - w.period_count) % w.every_count) else w.every_count - seen % w.every_count

-- how many of the points so far the next batch takes at most
abbrev pub kept_count : CountedWindow → ℕ → ℕ
kept_count w seen = w.period_count - to_come w seen

-- the number of its points, and those that the next batch takes
pub record CountedKept : Type 0 where
  pub seen : ℕ
  pub live : List PointValue

-- what is kept of points
abbrev pub points_kept : CountedWindow → List PointValue → CountedKept
points_kept w ps = record { seen = length ps; live = last (kept_count w (length ps)) ps }

-- what is kept of what came
abbrev pub counted_kept : CountedWindow → List Came → CountedKept
counted_kept w before = points_kept w (points_in before)

-- ---- the machine

-- a step, by what is kept
abbrev pub counted_step : CountedWindow → CountedKept → ℕ → PointValue → Turn CountedKept
counted_step w k port p = record {
  state = record { seen = k.seen + 1; live = last (kept_count w (k.seen + 1)) (k.live ++ p ∷ []) };
  said = counted w (k.seen + 1) p (k.live ++ p ∷ []);
}
