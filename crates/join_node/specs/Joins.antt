-- `join`: the points of all parents with one rounded time are put into sets.
use Rattle.std.specs.Prelude.{ℕ, ℤ, pos, ◌==◌, ◌&&◌, Bool, true, false, if◌then◌else◌, List, [], ◌∷◌, ◌++◌, filter, flat_map, length, Option, Some, None, option_map, int_lt, nat_lt}
use Rattle.std.specs.List.{last_or, list_any}
use Rattle.std.specs.Ordering.{int_eq}
use Rattle.kap_base.specs.Points.{is_time}
use Rattle.kap_base.specs.Times.{round}
use Rattle.kap_base.specs.declared.items.Body.{Body}
use Rattle.node_core.specs.declared.said.Said.{Said}
use Rattle.node_core.specs.Groups.{Came, GroupAnswer}
use Rattle.node_core.specs.Meaning.{a_drop}
use Rattle.task_graph.specs.declared.spec.Fill.{Fill}
use Rattle.task_graph.specs.declared.spec.Fill.TheVariants as fills
use Rattle.task_graph.specs.declared.spec.JoinSpec.{JoinSpec}
use Rattle.join_node.specs.Results.{result_of}
use Rattle.join_node.specs.Sets.{Columns, Set, columns, is_full, is_open, points_at, set_at, sets}

-- ---- times

-- how many parents there are
abbrev pub parents : JoinSpec → ℕ
parents j = length j.prefixes

-- a time, rounded to multiples of a tolerance that isn't 0
abbrev pub rounded_time : ℕ → ℤ → ℤ
rounded_time tolerance time = if tolerance == 0 then time else round time (pos tolerance)

-- the rounded time of a point
abbrev pub rounded : JoinSpec → Came → ℤ
rounded j c = rounded_time j.tolerance c.1.time

-- It came from a parent, and its rounded time is in range. The others are dropped and counted, and count for nothing
-- else.
abbrev pub is_heard : JoinSpec → Came → Bool
is_heard j c = nat_lt c.0 (parents j) && is_time (rounded j c)

-- the points that came from a parent with a rounded time in range, in order
abbrev pub heard : JoinSpec → List Came → List Came
heard j cs = filter (is_heard j) cs

-- some point before it has a greater rounded time
abbrev pub is_late : JoinSpec → List Came → Came → Bool
is_late j before c = list_any (λ b. int_lt (rounded j c) (rounded j b)) before

-- the point, unless it is late
abbrev pub unless_late : JoinSpec → List Came → Came → List Came
unless_late j before c = if is_late j before c then [] else c ∷ []

-- of points that come behind others those that aren't late
abbrev pub on_time_behind : JoinSpec → List Came → List Came → List Came
on_time_behind j before [] = []
on_time_behind j before (c ∷ cs) = unless_late j before c ++ on_time_behind j (before ++ c ∷ []) cs

-- the points that aren't late, in order
abbrev pub on_time : JoinSpec → List Came → List Came
on_time j cs = on_time_behind j [] cs

-- those with a rounded time
abbrev pub with_time : JoinSpec → ℤ → List Came → List Came
with_time j time cs = filter (λ c. int_eq (rounded j c) time) cs

-- of each parent the points with a rounded time that aren't late
abbrev pub columns_at : JoinSpec → ℤ → List Came → Columns
columns_at j time cs = columns (parents j) (with_time j time (on_time j cs))

-- the greatest rounded time: that of the last point that isn't late
abbrev pub latest : JoinSpec → List Came → Option ℤ
latest j cs = option_map (rounded j) (last_or None (on_time j cs))

-- ---- what is said of a point

-- nothing is dropped
abbrev pub gives : List Body → Said
gives bodies = record { bodies = bodies; deeds = []; drops = 0 }

-- sets that aren't full are given too
abbrev pub fills_up : Fill → Bool
fills_up fills.None = false
fills_up fills.Null = true
fills_up (fills.Number number) = true

-- what is given of sets that aren't full, in order
abbrev pub unfilled : JoinSpec → ℤ → List Set → List Body
unfilled j time ss = if fills_up j.fill then flat_map (result_of j time) ss else []

-- The point is the first with a rounded time greater than the greatest before it: the sets there that aren't full are
-- given.
abbrev pub closed : JoinSpec → List Came → ℤ → Option ℤ → List Body
closed j before time None = []
closed j before time (Some greatest) =
    if int_lt greatest time then unfilled j greatest (filter is_open (sets (columns_at j greatest before))) else []

-- the set of a point: it has the number of its parent's points with its rounded time before it
abbrev pub own_set : JoinSpec → List Came → Came → Set
own_set j before c =
    let time = rounded j c in
    set_at (length (points_at c.0 (with_time j time (on_time j before)))) (columns_at j time (before ++ c ∷ []))

-- which is given where the point fills it
abbrev pub filled : JoinSpec → ℤ → Set → List Body
filled j time s = if is_full s then result_of j time s else []

-- what is said of a point with a rounded time in range, by the points before it that have one
abbrev pub heard_says : JoinSpec → List Came → Came → Said
heard_says j before c =
    if is_late j before c then a_drop
    else gives (closed j before (rounded j c) (latest j before) ++ filled j (rounded j c) (own_set j before c))

-- what is said of a point, by the points of its group before it
abbrev pub join_says : JoinSpec → GroupAnswer
join_says j before port p = if is_heard j (port, p) then heard_says j (heard j before) (port, p) else a_drop
