-- `elapsed`: how much time passed from one point with a field to the next.
use Rattle.std.specs.Prelude.{◌≡◌, ℕ, ℤ, pos, ◌-ℤ◌, int_div, if◌then◌else◌, List, [], ◌∷◌, ◌++◌, codes, Option, Some, None, filter_map}
use Rattle.std.specs.FinMap.{contains_key}
use Rattle.std.proofs.Common.{ap, sym}
use Rattle.kap_base.specs.Points.{PointValue}
use Rattle.node_core.specs.declared.said.Said.{Said}
use Rattle.node_core.specs.Groups.{Came, GroupAnswer}
use Rattle.node_core.specs.Meaning.{Turn, a_drop, silence, passed}
use Rattle.task_graph.specs.declared.spec.ElapsedSpec.{ElapsedSpec}
use Rattle.state_nodes.specs.Words.{last, last_more, latest, result_name, with_number_alone}

-- how many units of so many nanoseconds lie between two times, toward 0 without the part of a unit that is left
abbrev pub units_between : ℕ → ℤ → ℤ → ℤ
units_between unit since time = int_div (time -ℤ since) (pos unit)

-- the time of a point that has the field
abbrev pub time_at : List ℕ → PointValue → Option ℤ
time_at field p = if contains_key p.fields field then Some p.time else None

-- the times of the points that have it, in order
abbrev pub times_at : List ℕ → List Came → List ℤ
times_at field points = filter_map (λ c. time_at field c.1) points

-- The point with the number of units since the one before as its one field. The first one with the field gives nothing,
-- and one without it is dropped and counted.
abbrev pub elapsed_from : ElapsedSpec → Option ℤ → Option ℤ → PointValue → Said
elapsed_from spec since None p = a_drop
elapsed_from spec None (Some time) p = silence
elapsed_from spec (Some since) (Some time) p =
    passed (with_number_alone (result_name (codes "elapsed") spec.name) (units_between spec.unit since time) p)

-- the time of the group's last point with the field
abbrev pub last_time : ElapsedSpec → List Came → Option ℤ
last_time spec points = last (times_at spec.field points)

-- what is said of a point, by the points of its group before it
abbrev pub elapsed_says : ElapsedSpec → GroupAnswer
elapsed_says spec before port p = elapsed_from spec (last_time spec before) (time_at spec.field p) p

-- ---- what is kept of a group: that time

-- a step, by what is kept
abbrev pub elapsed_step : ElapsedSpec → Option ℤ → ℕ → PointValue → Turn (Option ℤ)
elapsed_step spec since port p =
    record { state = latest since (time_at spec.field p); said = elapsed_from spec since (time_at spec.field p) p }

made : Said → Option ℤ → Turn (Option ℤ)
made said kept = record { state = kept; said = said }

-- what is kept, and what is said, of one point more
pub elapsed_goes_on : (spec : ElapsedSpec) (before : List Came) (port : ℕ) (p : PointValue)
    → elapsed_step spec (last_time spec before) port p
    ≡ record { state = last_time spec (before ++ (port, p) ∷ []); said = elapsed_says spec before port p }
unfolding made
elapsed_goes_on spec before port p =
    ap (made (elapsed_says spec before port p))
    (sym (last_more (λ (c : Came). time_at spec.field c.1) before (port, p)))
