-- Windows by time with edges: every so often a batch of the points of the period before.
use Rattle.std.specs.Prelude.{ℕ, zero, suc, ℤ, pos, ◌+ℤ◌, ◌-ℤ◌, int_lt, int_le, ◌&&◌, Bool, if◌then◌else◌, List, [], ◌∷◌, ◌++◌, filter, Option, Some, None}
use Rattle.kap_base.specs.Points.{PointValue}
use Rattle.kap_base.specs.Times.{trunc}
use Rattle.node_core.specs.declared.said.Said.{Said}
use Rattle.node_core.specs.Groups.{Came, GroupAnswer}
use Rattle.node_core.specs.Meaning.{Turn, silence}
use Rattle.window_node.specs.declared.edges.EdgeWindow.{EdgeWindow}
use Rattle.window_node.specs.Batches.{points_in, times, batch_at}

-- ---- edges, a function of a group's list of times

-- the greatest multiple of a duration not above a time, counted from the year 1; without a duration the time itself
abbrev pub truncated : ℤ → ℕ → ℤ
truncated time zero = time
truncated time (suc d) = trunc time (pos (suc d))

-- the edge behind one that a point of this time caused to be emitted
abbrev pub following : EdgeWindow → ℤ → ℤ
following w time = if w.align then truncated (time +ℤ pos w.every) w.every else time +ℤ pos w.every

-- the first edge that has a whole period behind a first point of this time
abbrev pub filled : EdgeWindow → ℤ → ℤ
filled w time = if w.align then truncated (time +ℤ pos w.period) w.every +ℤ pos w.every else time +ℤ pos w.period

-- the first edge of a group whose first point has this time
abbrev pub first_edge : EdgeWindow → ℤ → ℤ
first_edge w time = if w.fill_period then filled w time else following w time

-- the edge that waits once a point of this time has come: an edge is emitted at the first later point that isn't
-- before it
unfoldable pub next_edge : EdgeWindow → ℤ → ℤ → ℤ
next_edge w edge time = if int_le edge time then following w time else edge

-- the edge that waits behind these times, where this one waited before them
abbrev pub edge_behind : EdgeWindow → ℤ → List ℤ → ℤ
edge_behind w edge [] = edge
edge_behind w edge (t ∷ ts) = edge_behind w (next_edge w edge t) ts

-- the edge that waits behind a group's first point and these
abbrev pub edge_of : EdgeWindow → PointValue → List PointValue → ℤ
edge_of w first others = edge_behind w (first_edge w first.time) (times others)

-- ---- batches

-- the point isn't more than a period before the edge
abbrev pub is_live : EdgeWindow → ℤ → PointValue → Bool
is_live w edge p = int_le (edge -ℤ pos w.period) p.time

-- and is before the edge: so the edge's batch takes it
abbrev pub takes : EdgeWindow → ℤ → PointValue → Bool
takes w edge p = is_live w edge p && int_lt p.time edge

-- where a point isn't before the edge, the edge's batch of the points before it
abbrev pub emitted : EdgeWindow → ℤ → PointValue → List PointValue → Said
emitted w edge p before = if int_le edge p.time then batch_at p edge (filter (takes w edge) before) else silence

-- what is said of a point, by all points of its group before it
abbrev pub edges_say : EdgeWindow → List PointValue → PointValue → Said
edges_say w [] p = silence
edges_say w (first ∷ others) p = emitted w (edge_of w first others) p (first ∷ others)

-- what is said of a point, by the points of its group before it
abbrev pub edge_says : EdgeWindow → GroupAnswer
edge_says w before port p = edges_say w (points_in before) p

-- ---- what is kept of a group

-- the time of its first point, the edge that waits, and the points that this edge or a later one can take
pub record EdgeKept : Type 0 where
  pub first : ℤ
  pub edge : ℤ
  pub live : List PointValue

-- what is kept of points
abbrev pub edges_kept : EdgeWindow → List PointValue → Option EdgeKept
edges_kept w [] = None
edges_kept w (p ∷ ps) =
    Some (record { first = p.time; edge = edge_of w p ps; live = filter (is_live w (edge_of w p ps)) (p ∷ ps) })

-- what is kept of what came
abbrev pub edge_kept : EdgeWindow → List Came → Option EdgeKept
edge_kept w before = edges_kept w (points_in before)

-- ---- the machine

-- the first point of a group
abbrev pub opened : EdgeWindow → PointValue → EdgeKept
opened w p =
    record { first = p.time; edge = first_edge w p.time; live = filter (is_live w (first_edge w p.time)) (p ∷ []) }

-- the live points, with a point that has come
abbrev pub still_live : EdgeWindow → ℤ → PointValue → List PointValue → List PointValue
still_live w edge p live =
    if int_le edge p.time
    then filter (is_live w (following w p.time)) live ++ filter (is_live w (following w p.time)) (p ∷ [])
    else live ++ filter (is_live w edge) (p ∷ [])

-- a further point that isn't before the edge
abbrev pub passed : EdgeWindow → EdgeKept → PointValue → EdgeKept
passed w k p = let next = following w p.time in
    record { first = k.first; edge = next; live = filter (is_live w next) k.live ++ filter (is_live w next) (p ∷ []) }

-- a further point
abbrev pub moved : EdgeWindow → EdgeKept → PointValue → EdgeKept
moved w k p = record { first = k.first; edge = next_edge w k.edge p.time; live = still_live w k.edge p k.live }

-- a step, by what is kept
abbrev pub edge_step : EdgeWindow → Option EdgeKept → ℕ → PointValue → Turn (Option EdgeKept)
edge_step w None port p = record { state = Some (opened w p); said = silence }
edge_step w (Some k) port p = record { state = Some (moved w k p); said = emitted w k.edge p k.live }
