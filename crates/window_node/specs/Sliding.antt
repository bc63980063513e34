-- Windows by time without edges, which slide: at each point a batch of the points near the greatest time so far.
use Rattle.std.specs.Prelude.{ℕ, ℤ, pos, ◌+ℤ◌, ◌-ℤ◌, int_lt, int_le, not, ◌||◌, Bool, if◌then◌else◌, List, [], ◌∷◌, ◌++◌, filter, Option, Some, None}
use Rattle.std.specs.Int.{int_max}
use Rattle.std.specs.List.{fold}
use Rattle.kap_base.specs.Points.{PointValue}
use Rattle.node_core.specs.declared.said.Said.{Said}
use Rattle.node_core.specs.Groups.{Came, GroupAnswer}
use Rattle.node_core.specs.Meaning.{Turn, silence}
use Rattle.window_node.specs.declared.sliding.SlidingWindow.{SlidingWindow}
use Rattle.window_node.specs.Batches.{points_in, times, batch_at}

-- the greatest time of a group's first point and these
abbrev pub greatest : PointValue → List PointValue → ℤ
greatest first others = fold int_max first.time (times others)

-- the point is less than a period before the greatest time, or not before it
abbrev pub is_near : SlidingWindow → ℤ → PointValue → Bool
is_near w high p = int_lt (high -ℤ pos w.period) p.time

-- a batch is emitted: always, or once the greatest time is a period behind the group's first point
abbrev pub is_due : SlidingWindow → ℤ → ℤ → Bool
is_due w first high = not w.fill_period || int_le (first +ℤ pos w.period) high

-- the batch of these points, where the first one and the greatest have these times
abbrev pub slid : SlidingWindow → ℤ → ℤ → PointValue → List PointValue → Said
slid w first high p ps = if is_due w first high then batch_at p high (filter (is_near w high) ps) else silence

-- what is said of a point, by all points of its group up to it
abbrev pub said_behind : SlidingWindow → PointValue → List PointValue → Said
said_behind w p [] = silence
said_behind w p (first ∷ others) = slid w first.time (greatest first others) p (first ∷ others)

-- what is said of a point, by the points of its group before it
abbrev pub sliding_says : SlidingWindow → GroupAnswer
sliding_says w before port p = said_behind w p (points_in before ++ p ∷ [])

-- ---- what is kept of a group

-- the least that the greatest time of a batch to come can be, now or behind further points
abbrev pub reach : SlidingWindow → ℤ → ℤ → ℤ
reach w first high = if is_due w first high then high else first +ℤ pos w.period

-- the time of its first point, the greatest time, and the points that a later batch can take
pub record SlidingKept : Type 0 where
  pub first : ℤ
  pub high : ℤ
  pub live : List PointValue

-- what is kept of points
abbrev pub points_kept : SlidingWindow → List PointValue → Option SlidingKept
points_kept w [] = None
points_kept w (p ∷ ps) =
    Some (record {
      first = p.time;
      high = greatest p ps;
      live = filter (is_near w (reach w p.time (greatest p ps))) (p ∷ ps);
    })

-- what is kept of what came
abbrev pub sliding_kept : SlidingWindow → List Came → Option SlidingKept
sliding_kept w before = points_kept w (points_in before)

-- ---- the machine

-- before the first point of a group
abbrev pub started : PointValue → SlidingKept
started p = record { first = p.time; high = p.time; live = [] }

-- the live points, with a point that has come
abbrev pub still_near : SlidingWindow → ℤ → ℤ → PointValue → List PointValue → List PointValue
still_near w first high p live =
    if is_due w first high then filter (is_near w high) (live ++ p ∷ []) else live
    ++ filter (is_near w (first +ℤ pos w.period)) (p ∷ [])

-- one point more
abbrev pub slid_on : SlidingWindow → SlidingKept → PointValue → SlidingKept
slid_on w k p =
    record {
      first = k.first;
      high = int_max k.high p.time;
      live = still_near w k.first (int_max k.high p.time) p k.live;
    }

-- a step behind the first point
abbrev pub slid_turn : SlidingWindow → SlidingKept → PointValue → Turn (Option SlidingKept)
slid_turn w k p =
    record { state = Some (slid_on w k p); said = slid w k.first (int_max k.high p.time) p (k.live ++ p ∷ []) }

-- a step, by what is kept
abbrev pub sliding_step : SlidingWindow → Option SlidingKept → ℕ → PointValue → Turn (Option SlidingKept)
sliding_step w None port p = slid_turn w (started p) p
sliding_step w (Some k) port p = slid_turn w k p
