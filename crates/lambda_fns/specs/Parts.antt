-- The parts of a time in UTC, by the proleptic Gregorian calendar. A time is a number of nanoseconds since the
-- beginning of 1 January 1970, negative before it. Every day has 24 hours.
use Rattle.std.specs.Prelude.{◌≡◌, ℕ, zero, suc, ◌+◌, ◌/◌, ◌%◌, Bool, if◌then◌else◌, ℤ, pos, ◌+ℤ◌, ◌-ℤ◌, int_le, unsigned_abs}
use Rattle.std.specs.Int.{int_div_euclid, int_rem_euclid}
use Rattle.jiff_core.specs.Calendar.{days_from_civil, IsCivilDate}
use Rattle.kap_base.specs.declared.fun.TimePart.{TimePart}
use Rattle.kap_base.specs.declared.fun.TimePart.TheVariants.{UnixNano, Minute, Hour, Weekday, Day, Month, Year}

-- the number of the day, from 0 for 1 January 1970
abbrev pub day_number : ℤ → ℤ
day_number time = int_div_euclid time (pos 86_400_000_000_000)

-- the nanoseconds since the day began
abbrev pub of_day : ℤ → ℕ
of_day time = unsigned_abs (int_rem_euclid time (pos 86_400_000_000_000))

-- the greatest number up to n that passes, or 0
unfoldable pub greatest : (ℕ → Bool) → ℕ → ℕ
greatest passes zero = 0
greatest passes (suc n) = if passes (suc n) then suc n else greatest passes n

-- the last year up to 9999 that has begun by this day
unfoldable pub year_of : ℤ → ℕ
year_of day = greatest (λ y. int_le (days_from_civil (pos y) 1 1) day) 9999

-- the last month of that year that has begun by this day
unfoldable pub month_of : ℤ → ℕ
month_of day = greatest (λ m. int_le (days_from_civil (pos (year_of day)) m 1) day) 12

-- the day's place in that month, from 1
unfoldable pub day_of : ℤ → ℕ
day_of day = unsigned_abs (day -ℤ days_from_civil (pos (year_of day)) (month_of day) 1) + 1

-- from 0 for Sunday: 1 January 1970 was a Thursday
abbrev pub weekday_of : ℤ → ℕ
weekday_of day = unsigned_abs (int_rem_euclid (day +ℤ pos 4) (pos 7))

-- each part of a time
abbrev pub value_of : TimePart → ℤ → ℤ
value_of UnixNano time = time
value_of Minute time = pos (of_day time / 60_000_000_000 % 60)
value_of Hour time = pos (of_day time / 3_600_000_000_000)
value_of Weekday time = pos (weekday_of (day_number time))
value_of Day time = pos (day_of (day_number time))
value_of Month time = pos (month_of (day_number time))
value_of Year time = pos (year_of (day_number time))

-- the calendar has this date, and this is the number of its day
abbrev pub IsDateOf : ℤ → ℕ → ℕ → ℕ → Type 0
IsDateOf day y m d = IsCivilDate (pos y) m d × (days_from_civil (pos y) m d ≡ day)
