-- `shift` and `sample`.
use Rattle.std.specs.Prelude.{ℕ, ℤ, ◌+ℤ◌, ◌%◌, ◌==◌, if◌then◌else◌, Option, Some, None}
use Rattle.kap_base.specs.Points.{PointValue, is_time}
use Rattle.node_core.specs.declared.said.Said.{Said}
use Rattle.node_core.specs.Meaning.{a_drop, passed, passed_if}

-- the time so many nanoseconds later, where it lies in the range of times
abbrev pub later : ℤ → ℤ → Option ℤ
later by time = if is_time (time +ℤ by) then Some (time +ℤ by) else None

-- the point at this time; one without a time is dropped and counted
abbrev pub passed_at : Option ℤ → PointValue → Said
passed_at None p = a_drop
passed_at (Some time) p = passed (record p { time = time })

-- `shift`
abbrev pub shift_says : ℤ → PointValue → Said
shift_says by p = passed_at (later by p.time) p

-- `sample`, where so many points of the group came before: the first, and each n-th one behind it
abbrev pub sample_says : ℕ → ℕ → PointValue → Said
sample_says n before p = passed_if (before % n == 0) p
