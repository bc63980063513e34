use Rattle.std.proofs.Common.{◌≡◌, pos, ◌+◌, ◌%◌, arith, ap, ◌∙◌}
use Rattle.std.proofs.lemmas.Int.{to_z-of_z}
use Rattle.jiff_core.specs.DateTime.{civil_nanos}
use Rattle.jiff_core.specs.Calendar.{weekday_number}
use Rattle.jiff_core.specs.Date.{epoch_day}
use Rattle.jiff_core.proofs.CalendarLemmas.{days_in_month_bounds}
use Rattle.jiff_core.proofs.SignedLemmas.{signed_casts}
use Rattle.lambda_fns.proofs.CivilLaws.{in_time, minute_is, hour_is, weekday_is, year_is_shown, month_is_shown, day_is_shown}
use Rattle.lambda_fns.proofs.time.number_of.Goals as goal

pub returns-in-Minute : goal.returns-in-Minute
returns-in-Minute c =
    let dt = c.civil-shown.result in
    let shown : civil_nanos dt ≡ c.args.time = simp (to_z-of_z, c.ranges.time) at c.civil-shown.ensures in
    rw c.in-Minute.is (omega (arith, signed_casts, minute_is dt c.args.time shown, dt.time.minute_in))

pub returns-in-Hour : goal.returns-in-Hour
returns-in-Hour c =
    let dt = c.civil-shown.result in
    let shown : civil_nanos dt ≡ c.args.time = simp (to_z-of_z, c.ranges.time) at c.civil-shown.ensures in
    rw c.in-Hour.is (omega (arith, signed_casts, hour_is dt c.args.time shown, dt.time.hour_in))

pub returns-in-Weekday : goal.returns-in-Weekday
returns-in-Weekday c =
    let dt = c.civil-shown.result in
    let shown : civil_nanos dt ≡ c.args.time = simp (to_z-of_z, c.ranges.time) at c.civil-shown.ensures in
    let same : c.to_sunday_zero_offset.result ≡ pos ((weekday_number (epoch_day dt.date) + 1) % 7) =
    c.to_sunday_zero_offset.ensures.value ∙ ap (λ n. pos ((n + 1) % 7)) c.weekday.ensures in
    rw (c.in-Weekday.is, same, weekday_is dt c.args.time shown) (omega (arith, signed_casts))

pub returns-in-Day : goal.returns-in-Day
returns-in-Day c =
    let dt = c.civil-shown.result in
    let shown : civil_nanos dt ≡ c.args.time = simp (to_z-of_z, c.ranges.time) at c.civil-shown.ensures in
    rw (c.in-Day.is, day_is_shown dt c.args.time shown (in_time c.args.time c.requires)) (omega (arith, signed_casts, dt.date.day_in, days_in_month_bounds dt.date.year dt.date.month))

pub returns-in-Month : goal.returns-in-Month
returns-in-Month c =
    let dt = c.civil-shown.result in
    let shown : civil_nanos dt ≡ c.args.time = simp (to_z-of_z, c.ranges.time) at c.civil-shown.ensures in
    rw (c.in-Month.is, month_is_shown dt c.args.time shown (in_time c.args.time c.requires)) (omega (arith, signed_casts, dt.date.month_in))

pub returns-in-Year : goal.returns-in-Year
returns-in-Year c =
    let dt = c.civil-shown.result in
    let shown : civil_nanos dt ≡ c.args.time = simp (to_z-of_z, c.ranges.time) at c.civil-shown.ensures in
    rw (c.in-Year.is, ← year_is_shown dt c.args.time shown (in_time c.args.time c.requires)) (omega (arith, signed_casts, dt.date.year_in))
