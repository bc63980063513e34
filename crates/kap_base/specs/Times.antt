-- Multiples of durations, counted from the year 1.
use Rattle.std.specs.Prelude.{◌≡◌, ℤ, pos, negsuc, ◌*◌, ◌^◌, ◌≤ℤ◌, ◌<ℤ◌, ◌+ℤ◌, ◌-ℤ◌, ◌*ℤ◌, int_div}
use Rattle.std.specs.Int.{int_rem_euclid}

-- 0001-01-01T00:00:00Z, in nanoseconds from 1970 on
abbrev pub year_one : ℤ
year_one = negsuc 62135596799999999999

-- a duration that a script can have: from 1 to 200,000,000,000,000,000 nanoseconds
pub record IsDuration (duration : ℤ) : Type 0 where
  pub positive : pos 0 <ℤ duration
  pub limit : duration ≤ℤ pos (2 * 10 ^ 17)

-- a time, or one that lies behind the last one by no more than a duration
pub record IsInReach (time : ℤ) : Type 0 where
  pub low : negsuc (9 * 10 ^ 18) ≤ℤ time
  pub high : time ≤ℤ pos (92 * 10 ^ 17)

-- t is a multiple of the duration, counted from the year 1, and the greatest that isn't above the time
pub record IsGreatestMultiple (time duration t : ℤ) : Type 0 where
  pub multiple : (n : ℤ) × (t ≡ year_one +ℤ n *ℤ duration)
  pub not_above : t ≤ℤ time
  pub near : time <ℤ (t +ℤ duration)

-- the greatest multiple of the duration not above the time: the time less what remains of it since the year 1
unfoldable pub trunc : ℤ → ℤ → ℤ
trunc time duration = time -ℤ int_rem_euclid (time -ℤ year_one) duration

-- the nearest multiple; halves go up
abbrev pub round : ℤ → ℤ → ℤ
round time duration = trunc (time +ℤ int_div duration (pos 2)) duration
