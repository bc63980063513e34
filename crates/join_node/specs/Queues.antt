-- What a join keeps of a group: of each parent the points that wait for those of others, with the greatest rounded
-- time.
use Rattle.std.specs.Prelude.{ℕ, zero, suc, ℤ, Bool, if◌then◌else◌, List, [], ◌∷◌, ◌++◌, map, drop, replicate, Option, Some, None, option_map, is_some, int_lt}
use Rattle.std.specs.List.{list_any}
use Rattle.kap_base.specs.Points.{PointValue}
use Rattle.kap_base.specs.declared.items.Body.{Body}
use Rattle.node_core.specs.Groups.{Came}
use Rattle.node_core.specs.Meaning.{Turn, a_drop}
use Rattle.task_graph.specs.declared.spec.JoinSpec.{JoinSpec}
use Rattle.join_node.specs.Joins.{columns_at, gives, heard, is_heard, latest, parents, rounded, unfilled}
use Rattle.join_node.specs.Results.{result_of}
use Rattle.join_node.specs.Sets.{Columns, Set, is_full, set_at, sets}

-- ---- queues

-- without the first point of each
abbrev pub rests : Columns → Columns
rests queues = map (drop 1) queues

-- all without points
abbrev pub emptied : Columns → Columns
emptied queues = map (λ ps. []) queues

-- some queue has a point
abbrev pub has_points : Columns → Bool
has_points queues = list_any is_some (set_at 0 queues)

-- each queue has one
abbrev pub is_ready : Columns → Bool
is_ready queues = is_full (set_at 0 queues)

-- a point behind those of its parent
abbrev pub push : ℕ → PointValue → Columns → Columns
push port p [] = []
push zero p (ps ∷ queues) = (ps ++ p ∷ []) ∷ queues
push (suc port) p (ps ∷ queues) = ps ∷ push port p queues

-- what a point makes of queues, and the set that it fills
pub record Placed : Type 0 where
  pub queues : Columns
  pub filled : Option Set

-- where each queue has a point the first ones are a full set, and go
abbrev pub settled : Columns → Placed
settled queues = if is_ready queues then record { queues = rests queues; filled = Some (set_at 0 queues) }
    else record { queues = queues; filled = None }

-- the queues with a point behind those of its parent, and the set that it fills, which goes
abbrev pub place : ℕ → PointValue → Columns → Placed
place port p queues = settled (push port p queues)

-- the points of each parent that aren't in full sets
abbrev pub waiting_in : List PointValue → Columns → Columns
waiting_in [] others = [] ∷ others
waiting_in (p ∷ ps) others = if is_ready others then waiting_in ps (rests others) else (p ∷ ps) ∷ others

-- the points that aren't in full sets, parent by parent
abbrev pub waiting : Columns → Columns
waiting [] = []
waiting (ps ∷ others) = waiting_in ps others

-- ---- groups

-- what is kept of a group: the greatest rounded time, and the points that wait there
pub record JoinKept : Type 0 where
  pub time : ℤ
  pub queues : Columns

-- what is kept of points, of which this is the greatest rounded time
abbrev pub kept_at : JoinSpec → List Came → ℤ → JoinKept
kept_at j cs time = record { time = time; queues = waiting (columns_at j time cs) }

-- nothing before the first point with a rounded time in range
abbrev pub join_kept : JoinSpec → List Came → Option JoinKept
join_kept j before = option_map (kept_at j (heard j before)) (latest j (heard j before))

-- ---- the machine

-- what is given of the set that a point fills
abbrev pub filled_by : JoinSpec → ℤ → Option Set → List Body
filled_by j time None = []
filled_by j time (Some s) = result_of j time s

-- a point comes to queues of its rounded time, behind what was given
abbrev pub arrived : JoinSpec → ℤ → List Body → Columns → ℕ → PointValue → Turn (Option JoinKept)
arrived j time before queues port p =
    let placed = place port p queues in
    record {
      state = Some (record { time = time; queues = placed.queues });
      said = gives (before ++ filled_by j time placed.filled);
    }

-- a point with a greater rounded time comes: the sets there that aren't full are given
abbrev pub risen : JoinSpec → JoinKept → ℤ → ℕ → PointValue → Turn (Option JoinKept)
risen j kept time port p = arrived j time (unfilled j kept.time (sets kept.queues)) (emptied kept.queues) port p

-- a point with a rounded time in range comes
abbrev pub moved : JoinSpec → Option JoinKept → ℤ → ℕ → PointValue → Turn (Option JoinKept)
moved j None time port p = arrived j time [] (replicate (parents j) []) port p
moved j (Some kept) time port p =
    if int_lt time kept.time then record { state = Some kept; said = a_drop }
    else if int_lt kept.time time then risen j kept time port p
    else arrived j time [] kept.queues port p

-- a step, by what is kept
abbrev pub join_step : JoinSpec → Option JoinKept → ℕ → PointValue → Turn (Option JoinKept)
join_step j kept port p =
    if is_heard j (port, p) then moved j kept (rounded j (port, p)) port p else record { state = kept; said = a_drop }
