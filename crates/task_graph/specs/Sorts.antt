-- What a value that a script hands to a node must be.
use Rattle.std.specs.Prelude.{ℕ, ℤ, pos, negsuc, Bool, ◌&&◌, if◌then◌else◌, Option, Some, None, nat_le}
use Rattle.task_graph.specs.declared.sorts.TheConstants.{SPAN_LIMIT, UNIT_LIMIT}

-- the value, where it passes the test
abbrev pub tested : {A : Type 0} → (A → Bool) → A → Option A
tested test x = if test x then Some x else None

-- the number, where it isn't negative and passes the test
abbrev pub tested_number : (ℕ → Bool) → ℤ → Option ℕ
tested_number test (pos n) = tested test n
tested_number test (negsuc n) = None

-- a number of at least 1
abbrev pub is_count : ℕ → Bool
is_count n = nat_le 1 n

-- a time that may pass, in nanoseconds
abbrev pub is_span : ℕ → Bool
is_span n = nat_le n SPAN_LIMIT

-- one that isn't 0
abbrev pub is_period : ℕ → Bool
is_period n = nat_le 1 n && is_span n

-- one of at least a microsecond
abbrev pub is_unit : ℕ → Bool
is_unit n = nat_le UNIT_LIMIT n && is_span n
