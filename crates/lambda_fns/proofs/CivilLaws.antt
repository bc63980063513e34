-- What jiff says of a datetime gives each part of the time.
use Rattle.std.proofs.Common.{◌≡◌, ℕ, zero, suc, ◌+◌, ◌/◌, ◌%◌, ◌<◌, ◌≤◌, Bool, true, false, inl, inr, refl, sym, ap, ◌∙◌, arith, ℤ, pos, negsuc, neg_ℤ, ◌-ℤ◌, ◌<ℤ◌, ◌≤ℤ◌, int_le}
use Rattle.std.proofs.lemmas.Bool.{cases_lt}
use Rattle.std.proofs.lemmas.Bool.Decides.{nat_tests}
use Rattle.std.specs.Prelude.{IsTrue, nat_lt, nat_le}
use Rattle.kap_base.specs.Points.{is_time}
use Rattle.std.proofs.lemmas.Int.{by_lt_z, ints}
use Rattle.jiff_core.specs.Calendar.{days_from_civil, weekday_number, day_count, IsCivilDate, IsBetween}
use Rattle.jiff_core.specs.Date.{epoch_day}
use Rattle.jiff_core.specs.DateTime.{civil_nanos}
use Rattle.jiff_core.specs.Time.{time_nanos}
use Rattle.jiff_core.specs.declared.civil.datetime.DateTime.{DateTime}
use Rattle.jiff_core.specs.declared.civil.date.Date.{Date}
use Rattle.jiff_core.proofs.SignedLemmas.{signed_arith, one_part}
use Rattle.jiff_core.proofs.CalendarLemmas.{days_from_civil-day_count, day_count-lt_year, day_count-lt_month, day_count-day, day_count-day_of_year, weekday_number-parts}
use Rattle.jiff_core.proofs.MarchLemmas.{day_count-early}
use Rattle.jiff_core.proofs.DateLemmas.{civil}
use Rattle.jiff_core.proofs.DateTimeLemmas.{civil_nanos-parts, time_nanos_bound, epoch_day-civil_nanos}
use Rattle.lambda_fns.specs.Parts.{greatest, day_number, of_day, year_of, month_of, day_of, weekday_of}
use borrow.Author.Differences.{up}

abbrev pub IsTime : ℤ → Type 0
IsTime time = IsBetween (neg_ℤ (pos 9_000_000_000_000_000_000)) (pos 9_000_000_000_000_000_000) time

below : (n m : ℕ) → nat_lt n m ≡ true → n < m
below n m h = grind (arith, nat_tests)

up_to : (n m : ℕ) → nat_le n m ≡ true → n ≤ m
up_to n m h = grind (arith, nat_tests)

pub in_time : (time : ℤ) → IsTrue (is_time time) → IsTime time
in_time (pos n) h = let le : n ≤ 9_000_000_000_000_000_000 = up_to n 9_000_000_000_000_000_000 h in omega (arith, signed_arith)
in_time (negsuc n) h = let lt : n < 9_000_000_000_000_000_000 = below n 9_000_000_000_000_000_000 h in omega (arith, signed_arith)

-- the greatest number that passes is the one that passes and has no greater
pub greatest_is : (passes : ℕ → Bool) (n k : ℕ) → 1 ≤ k → k ≤ n → passes k ≡ true → ((j : ℕ) → k < j → j ≤ n → passes j ≡ false) → greatest passes n ≡ k
unfolding greatest
greatest_is passes zero k low high here after = absurd (omega arith)
greatest_is passes (suc n) k low high here after =
    elim (cases_lt k (suc n)) [
      | inl lt ↦ rw (after (suc n) lt (omega arith)) (greatest_is passes n k low (omega arith) here (λ j above within. after j above (omega arith)))
      | inr ge ↦ let same : suc n ≡ k = omega arith in rw (ap passes same ∙ here) same
    ]

pub le_true : (a b : ℤ) → a ≤ℤ b → int_le a b ≡ true
le_true a b h = grind (arith, ints)

pub le_false : (a b : ℤ) → b <ℤ a → int_le a b ≡ false
le_false a b h = grind (arith, ints)

-- the first day of the year 1
year_one : day_count (pos 1) 1 1 ≡ 3_652_791
year_one = day_count-early (pos 1) 10000 1 1 refl (omega arith) (omega arith) (omega arith)

-- a date of a time has a year from 1 on
year_from_one : (d : Date) → neg_ℤ (pos 104_167) ≤ℤ epoch_day d → pos 0 <ℤ d.year
year_from_one d h =
    by_lt_z (pos 0) d.year (λ lt. lt)
    (λ ge. absurd (omega (arith, signed_arith, days_from_civil-day_count, year_one, day_count-lt_year d.year d.month d.day (pos 1) 1 1 (civil d) (omega arith) (omega (arith, signed_arith)))))

-- the parts of a date are those of its day number
pub year_is : (d : Date) (y : ℕ) → d.year ≡ pos y → 1 ≤ y → year_of (epoch_day d) ≡ y
unfolding year_of
year_is d y e low =
    let c : IsCivilDate (pos y) d.month d.day = rw e at (civil d) in
    let day : epoch_day d ≡ days_from_civil (pos y) d.month d.day = rw e refl in
    rw day (greatest_is _ 9999 y low (omega (arith, signed_arith, c.0))
    (le_true (days_from_civil (pos y) 1 1) (days_from_civil (pos y) d.month d.day) (omega (arith, signed_arith, days_from_civil-day_count, day_count-day_of_year (pos y) d.month d.day c.2.0, day_count-day_of_year (pos y) 1 1 (omega arith))))
    (λ j above within. le_false (days_from_civil (pos j) 1 1) (days_from_civil (pos y) d.month d.day) (omega (arith, signed_arith, days_from_civil-day_count, day_count-lt_year (pos y) d.month d.day (pos j) 1 1 c (omega arith) (omega (arith, signed_arith))))))

pub month_is : (d : Date) (y : ℕ) → d.year ≡ pos y → 1 ≤ y → month_of (epoch_day d) ≡ d.month
unfolding month_of
month_is d y e low =
    let c : IsCivilDate (pos y) d.month d.day = rw e at (civil d) in
    let year = year_is d y e low in
    let day : epoch_day d ≡ days_from_civil (pos y) d.month d.day = rw e refl in
    rw (year, day) (greatest_is _ 12 d.month c.1.0 c.1.1
    (le_true (days_from_civil (pos y) d.month 1) (days_from_civil (pos y) d.month d.day) (omega (arith, signed_arith, days_from_civil-day_count, day_count-day (pos y) d.month d.day 1 c.2.0 (omega arith))))
    (λ j above within. le_false (days_from_civil (pos y) j 1) (days_from_civil (pos y) d.month d.day) (omega (arith, signed_arith, days_from_civil-day_count, day_count-lt_month (pos y) d.month d.day j 1 c (omega arith) above))))

pub day_is : (d : Date) (y : ℕ) → d.year ≡ pos y → 1 ≤ y → day_of (epoch_day d) ≡ d.day
unfolding day_of
day_is d y e low =
    let c : IsCivilDate (pos y) d.month d.day = rw e at (civil d) in
    let year = year_is d y e low in
    let month = month_is d y e low in
    let day : epoch_day d ≡ days_from_civil (pos y) d.month d.day = rw e refl in
    rw (year, month, day) (omega (arith, signed_arith, days_from_civil-day_count, one_part (days_from_civil (pos y) d.month d.day -ℤ days_from_civil (pos y) d.month 1), day_count-day (pos y) d.month d.day 1 c.2.0 (omega arith)))

module _ (dt : DateTime) (time : ℤ) (shown : civil_nanos dt ≡ time) where
  pub day_number_is : day_number time ≡ epoch_day dt.date
  day_number_is = rw (← shown) (sym (epoch_day-civil_nanos dt))

  pub of_day_is : of_day time ≡ time_nanos dt.time
  of_day_is = omega (arith, signed_arith, shown, civil_nanos-parts dt, time_nanos_bound dt.time)

  pub minute_is : of_day time / 60_000_000_000 % 60 ≡ dt.time.minute
  minute_is = rw of_day_is (omega (arith, dt.time.minute_in, dt.time.second_in, dt.time.subsec_in))

  pub hour_is : of_day time / 3_600_000_000_000 ≡ dt.time.hour
  hour_is = rw of_day_is (omega (arith, dt.time.minute_in, dt.time.second_in, dt.time.subsec_in))

  pub weekday_is : weekday_of (day_number time) ≡ (weekday_number (epoch_day dt.date) + 1) % 7
  weekday_is = rw day_number_is (omega (arith, signed_arith, weekday_number-parts (epoch_day dt.date)))

  module _ (in_range : IsTime time) where
    pub year_of_time : (y : ℕ) × (dt.date.year ≡ pos y) × (1 ≤ y)
    year_of_time =
        let positive = year_from_one dt.date (omega (arith, signed_arith, in_range, shown, civil_nanos-parts dt, time_nanos_bound dt.time)) in
        (up dt.date.year, omega (arith, signed_arith, one_part dt.date.year), omega (arith, signed_arith))

    pub year_is_shown : dt.date.year ≡ pos (year_of (day_number time))
    year_is_shown =
        let y = year_of_time in
        rw (day_number_is, year_is dt.date y.0 y.1 y.2) y.1

    pub month_is_shown : month_of (day_number time) ≡ dt.date.month
    month_is_shown =
        let y = year_of_time in
        rw day_number_is (month_is dt.date y.0 y.1 y.2)

    pub day_is_shown : day_of (day_number time) ≡ dt.date.day
    day_is_shown =
        let y = year_of_time in
        rw day_number_is (day_is dt.date y.0 y.1 y.2)
