-- Examples: the batches of a group by the times of its points, in seconds.
use Rattle.std.specs.Prelude.{◌≡◌, ℕ, ◌*◌, ℤ, pos, Bool, true, false, List, [], ◌∷◌, ◌++◌, map}
use Rattle.std.specs.FinMap.{empty}
use Rattle.kap_base.specs.Points.{PointValue}
use Rattle.kap_base.specs.declared.items.Body.{Body}
use Rattle.kap_base.specs.declared.items.Body.TheVariants as bodies
use Rattle.node_core.specs.declared.said.Said.{Said}
use Rattle.window_node.specs.Batches.{times}
use Rattle.window_node.specs.Edges.{edges_say}
use Rattle.window_node.specs.Sliding.{said_behind}
use Rattle.window_node.specs.Counted.{points_say}

-- a point of this time
abbrev pub at : ℤ → PointValue
at time = record { db = []; rp = []; name = []; tags = empty; fields = empty; dims = []; by_name = false; time = time }

-- the end of a batch, and the times of its points
abbrev pub batch_times : List Body → List (ℤ × List ℤ)
batch_times [] = []
batch_times (bodies.Point p ∷ rest) = batch_times rest
batch_times (bodies.Batch b ∷ rest) = (b.tmax, times b.points) ∷ batch_times rest

-- the batches of points of these times that come behind others
abbrev pub batches_behind : (List PointValue → PointValue → Said) → List PointValue → List ℤ → List (ℤ × List ℤ)
batches_behind says before [] = []
batches_behind says before (t ∷ ts) =
    batch_times (says before (at t)).bodies ++ batches_behind says (before ++ at t ∷ []) ts

-- so many seconds
abbrev pub seconds : ℕ → ℕ
seconds n = n * 1000000000

-- a batch that ends at this time, of points of these times
abbrev pub batch : ℕ → List ℕ → ℤ × List ℤ
batch tmax ts = (pos (seconds tmax), map (λ t. pos (seconds t)) ts)

-- these are the batches of points of these times
abbrev pub Gives : (List PointValue → PointValue → Said) → List ℕ → List (ℤ × List ℤ) → Type 0
Gives says ts given = batches_behind says [] (map (λ t. pos (seconds t)) ts) ≡ given

-- ---- with edges

-- what a window of this period and every, aligned or not, filled or not, says of a point behind others
abbrev pub edges : ℕ → ℕ → Bool → Bool → List PointValue → PointValue → Said
edges period every align fill_period =
    edges_say (record { period = seconds period; every = seconds every; align = align; fill_period = fill_period })

-- a point on the edge isn't in the edge's batch
abbrev pub OnTheEdge : Type 0
OnTheEdge = Gives (edges 60 60 true false) (10 ∷ 50 ∷ 60 ∷ []) (batch 60 (10 ∷ 50 ∷ []) ∷ [])

-- the first edge has a whole period before it, and edges that no point was before are not emitted
abbrev pub FilledEdges : Type 0
FilledEdges =
    Gives (edges 120 60 true true) (10 ∷ 70 ∷ 130 ∷ 430 ∷ 480 ∷ [])
    (batch 180 (70 ∷ 130 ∷ []) ∷ batch 480 (430 ∷ []) ∷ [])

-- a batch without points is given too
abbrev pub EmptyBatch : Type 0
EmptyBatch = Gives (edges 10 60 false false) (0 ∷ 100 ∷ []) (batch 60 [] ∷ [])

-- with falling times a point may be in two batches, as that at 7, or in none, as that at 1
abbrev pub FallingTimes : Type 0
FallingTimes =
    Gives (edges 10 5 false false) (0 ∷ 7 ∷ 1 ∷ 6 ∷ 12 ∷ 17 ∷ [])
    (batch 5 (0 ∷ []) ∷ batch 12 (7 ∷ 6 ∷ []) ∷ batch 17 (7 ∷ 12 ∷ []) ∷ [])

-- ---- sliding

-- the same of a window that gives at each point
abbrev pub slides : ℕ → Bool → List PointValue → PointValue → Said
slides period fill_period before p =
    said_behind (record { period = seconds period; fill_period = fill_period }) p (before ++ p ∷ [])

-- a late point isn't in its own batch
abbrev pub LatePoint : Type 0
LatePoint = Gives (slides 10 false) (5 ∷ 20 ∷ 15 ∷ 3 ∷ [])
    (batch 5 (5 ∷ []) ∷ batch 20 (20 ∷ []) ∷ batch 20 (20 ∷ 15 ∷ []) ∷ batch 20 (20 ∷ 15 ∷ []) ∷ [])

-- with fillPeriod a batch is given once the greatest time is a period behind the first point, which isn't the least one
-- here
abbrev pub FilledPeriod : Type 0
FilledPeriod =
    Gives (slides 10 true) (5 ∷ 1 ∷ 12 ∷ 15 ∷ 14 ∷ []) (batch 15 (12 ∷ 15 ∷ []) ∷ batch 15 (12 ∷ 15 ∷ 14 ∷ []) ∷ [])

-- ---- by number

-- the same of a window of so many points, at each so many
abbrev pub counts : ℕ → ℕ → Bool → List PointValue → PointValue → Said
counts period_count every_count fill_period =
    points_say (record { period_count = period_count; every_count = every_count; fill_period = fill_period })

-- each third point, with the last two
abbrev pub EachThird : Type 0
EachThird = Gives (counts 2 3 false) (1 ∷ 2 ∷ 3 ∷ 4 ∷ 5 ∷ 6 ∷ []) (batch 3 (2 ∷ 3 ∷ []) ∷ batch 6 (5 ∷ 6 ∷ []) ∷ [])

-- each second point, with the last three or as many as there are
abbrev pub EachSecond : Type 0
EachSecond = Gives (counts 3 2 false) (1 ∷ 2 ∷ 3 ∷ 4 ∷ []) (batch 2 (1 ∷ 2 ∷ []) ∷ batch 4 (2 ∷ 3 ∷ 4 ∷ []) ∷ [])

-- with fillPeriod the third point first, and then each second one
abbrev pub FilledCount : Type 0
FilledCount =
    Gives (counts 3 2 true) (1 ∷ 2 ∷ 3 ∷ 4 ∷ 5 ∷ []) (batch 3 (1 ∷ 2 ∷ 3 ∷ []) ∷ batch 5 (3 ∷ 4 ∷ 5 ∷ []) ∷ [])
