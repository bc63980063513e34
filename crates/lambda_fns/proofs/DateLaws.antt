-- The year, month and day of a day are a date of the calendar, and the day is that date's.
use Rattle.std.proofs.Common.{◌≡◌, ◌⊎◌, ℕ, zero, suc, ◌+◌, ◌<◌, ◌≤◌, Bool, true, false, cond, inl, inr, refl, sym, ◌∙◌, arith, ℤ, pos, neg_ℤ, ◌+ℤ◌, ◌-ℤ◌, ◌<ℤ◌, ◌≤ℤ◌, int_le, unsigned_abs}
use Rattle.std.proofs.lemmas.Bool.{cases_lt}
use Rattle.jiff_core.specs.Calendar.{days_from_civil, days_in_month, day_count, IsCivilDate}
use Rattle.jiff_core.proofs.SignedLemmas.{signed_arith, one_part}
use Rattle.jiff_core.proofs.CalendarLemmas.{days_from_civil-day_count, day_count-later_year, day_count-next_month, day_count-next_year, day_count-last_of_year, day_count-day}
use Rattle.jiff_core.proofs.MarchLemmas.{day_count-early}
use Rattle.lambda_fns.specs.Parts.{greatest, year_of, month_of, day_of}
use Rattle.lambda_fns.proofs.CivilLaws.{le_true}
use borrow.Author.Differences.{up}

pub greatest_passes : (passes : ℕ → Bool) (n : ℕ) → (passes (greatest passes n) ≡ true) ⊎ (greatest passes n ≡ 0)
unfolding greatest
greatest_passes passes zero = inr refl
greatest_passes passes (suc n) = go (passes (suc n)) refl (greatest_passes passes n)
  where
    go : (t : Bool) → passes (suc n) ≡ t → (passes (greatest passes n) ≡ true) ⊎ (greatest passes n ≡ 0) → (passes (cond t (suc n) (greatest passes n)) ≡ true) ⊎ (cond t (suc n) (greatest passes n) ≡ 0)
    go true e h = inl e
    go false e h = h

pub greatest_within : (passes : ℕ → Bool) (n : ℕ) → greatest passes n ≤ n
unfolding greatest
greatest_within passes zero = omega arith
greatest_within passes (suc n) = go (passes (suc n)) (greatest_within passes n)
  where
    go : (t : Bool) → greatest passes n ≤ n → cond t (suc n) (greatest passes n) ≤ suc n
    go true h = omega arith
    go false h = omega arith

pub greatest_fails : (passes : ℕ → Bool) (n j : ℕ) → greatest passes n < j → j ≤ n → passes j ≡ false
unfolding greatest
greatest_fails passes zero j above within = absurd (omega arith)
greatest_fails passes (suc n) j above within = go (passes (suc n)) refl (greatest_fails passes n j) above
  where
    go : (t : Bool) → passes (suc n) ≡ t → (greatest passes n < j → j ≤ n → passes j ≡ false) → cond t (suc n) (greatest passes n) < j → passes j ≡ false
    go true e h up = absurd (omega arith)
    go false e h up = elim (cases_lt n j) [
      | inl lt ↦ let same : j ≡ suc n = omega arith in rw same e
      | inr ge ↦ h up ge
    ]

year_one : day_count (pos 1) 1 1 ≡ 3_652_791
year_one = day_count-early (pos 1) 10000 1 1 refl (omega arith) (omega arith) (omega arith)

year_2256 : day_count (pos 2256) 1 1 ≡ 4_476_412
year_2256 = day_count-early (pos 2256) 12255 1 1 refl (omega arith) (omega arith) (omega arith)

-- the year has begun, and the next has not
pub record YearOf (day : ℤ) (y : ℕ) : Type 0 where
  pub some : 1 ≤ y
  pub early : y < 2256
  pub begun : days_from_civil (pos y) 1 1 ≤ℤ day
  pub before_next : day <ℤ days_from_civil (pos (y + 1)) 1 1

pub year_of_is : (day : ℤ) → neg_ℤ (pos 104_167) ≤ℤ day → day ≤ℤ pos 104_166 → YearOf day (year_of day)
unfolding year_of
year_of_is day low high =
    let passes : ℕ → Bool = λ y. int_le (days_from_civil (pos y) 1 1) day in
    let y = greatest passes 9999 in
    let first : passes 1 ≡ true = le_true (days_from_civil (pos 1) 1 1) day (omega (arith, signed_arith, days_from_civil-day_count, year_one)) in
    let some : 1 ≤ y = elim (cases_lt y 1) [
      | inl lt ↦ absurd (let no = greatest_fails passes 9999 1 lt (omega arith) in let bad : true ≡ false = sym first ∙ no in cc)
      | inr ge ↦ ge
    ] in
    let passed : passes y ≡ true = elim (greatest_passes passes 9999) [ inl p ↦ p | inr none ↦ absurd (omega arith) ] in
    let begun : days_from_civil (pos y) 1 1 ≤ℤ day = omega (arith, signed_arith, passed) in
    let early : y < 2256 = elim (cases_lt 2255 y) [
      | inl late ↦ elim (cases_lt 2256 y) [
        | inl later ↦ absurd (omega (arith, signed_arith, days_from_civil-day_count, year_2256, day_count-later_year (pos 2256) (pos y) (omega (arith, signed_arith)) (omega (arith, signed_arith))))
        | inr same ↦ absurd (let e : y ≡ 2256 = omega arith in let b = rw e at begun in omega (arith, signed_arith, days_from_civil-day_count, year_2256))
      ]
      | inr ge ↦ omega arith
    ] in
    let failed : passes (y + 1) ≡ false = greatest_fails passes 9999 (y + 1) (omega arith) (omega arith) in
    record { some = some; early = early; begun = begun; before_next = omega (arith, signed_arith, failed) }

-- the month has begun, and the days from its first to this one are in it
pub record MonthOf (day : ℤ) (y m : ℕ) : Type 0 where
  pub some : 1 ≤ m
  pub last : m ≤ 12
  pub begun : days_from_civil (pos y) m 1 ≤ℤ day
  pub before_next : day <ℤ (days_from_civil (pos y) m 1 +ℤ pos (days_in_month (pos y) m))

december : (y : ℤ) → days_in_month y 12 ≡ 31
december y = refl

pub month_of_is : (day : ℤ) → YearOf day (year_of day) → MonthOf day (year_of day) (month_of day)
unfolding month_of
month_of_is day year =
    let y = year_of day in
    let passes : ℕ → Bool = λ m. int_le (days_from_civil (pos y) m 1) day in
    let m = greatest passes 12 in
    let first : passes 1 ≡ true = le_true (days_from_civil (pos y) 1 1) day year.begun in
    let some : 1 ≤ m = elim (cases_lt m 1) [
      | inl lt ↦ absurd (let no = greatest_fails passes 12 1 lt (omega arith) in let bad : true ≡ false = sym first ∙ no in cc)
      | inr ge ↦ ge
    ] in
    let last : m ≤ 12 = greatest_within passes 12 in
    let passed : passes m ≡ true = elim (greatest_passes passes 12) [ inl p ↦ p | inr none ↦ absurd (omega arith) ] in
    let begun : days_from_civil (pos y) m 1 ≤ℤ day = omega (arith, signed_arith, passed) in
    record {
      some = some;
      last = last;
      begun = begun;
      before_next = elim (cases_lt m 12) [
        | inl lt ↦ let failed : passes (m + 1) ≡ false = greatest_fails passes 12 (m + 1) (omega arith) (omega arith) in
            omega (arith, signed_arith, failed, days_from_civil-day_count, day_count-next_month (pos y) m some)
        | inr ge ↦ let same : m ≡ 12 = omega arith in
            rw same (omega (arith, signed_arith, days_from_civil-day_count, december (pos y), year.before_next, day_count-next_year (pos y) (pos (y + 1)) (omega (arith, signed_arith)) (omega (arith, signed_arith)), day_count-last_of_year (pos y), day_count-day (pos y) 12 31 1 (omega arith) (omega arith)))
      ];
    }

-- each day of a time is that of the date by its parts
pub is_date : (day : ℤ) → neg_ℤ (pos 104_167) ≤ℤ day → day ≤ℤ pos 104_166
    → IsCivilDate (pos (year_of day)) (month_of day) (day_of day) × (days_from_civil (pos (year_of day)) (month_of day) (day_of day) ≡ day)
unfolding day_of
is_date day low high =
    let year = year_of_is day low high in
    let month = month_of_is day year in
    let y = year_of day in
    let m = month_of day in
    let d = unsigned_abs (day -ℤ days_from_civil (pos y) m 1) + 1 in
    let place : pos d ≡ day -ℤ days_from_civil (pos y) m 1 +ℤ pos 1 = omega (arith, signed_arith, one_part (day -ℤ days_from_civil (pos y) m 1), month.begun) in
    let inside : d ≤ days_in_month (pos y) m = omega (arith, signed_arith, place, month.before_next) in
    let within = year.early in (
      (omega (arith, signed_arith), (month.some, month.last), (omega arith, inside)),
      omega (arith, signed_arith, place, days_from_civil-day_count, day_count-day (pos y) m d 1 (omega arith) (omega arith)),
    )
