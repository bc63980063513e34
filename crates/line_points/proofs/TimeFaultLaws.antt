-- Where the time is faulty: which fault is read, and what stands behind the fields.
use Rattle.std.proofs.Common.{◌≡◌, ℕ, ◌*◌, Bool, true, false, cond, Option, Some, None, List, ◌∷◌, ◌++◌, length, drop, Ok, Err, refl, sym, ap, subst, ◌∙◌, append_assoc}
use Rattle.std.specs.Prelude.{ℤ, nat_le, Result}
use Rattle.std.specs.List.{list_all, before_first, position_or_len}
use Rattle.std.specs.Option.{option_map_or}
use Rattle.std.specs.Str.Parse.{digits_value}
use Rattle.std.proofs.lemmas.List.{append-nil, take-append-drop}
use Rattle.kap_base.specs.Texts.{is_empty, begins_with}
use Rattle.kap_base.specs.declared.limits.TheConstants.{TIME_LIMIT}
use Rattle.line_points.specs.declared.fault.LineFault.{LineFault}
use Rattle.line_points.specs.declared.fault.LineFault.TheVariants as faults
use Rattle.line_points.specs.declared.mode.Unit.{Unit as TimeUnit}
use Rattle.line_points.specs.declared.mode.Mode.{Mode}
use Rattle.line_points.specs.declared.mode.Mode.TheVariants.{Live, Recording}
use Rattle.line_points.specs.Parts.{comma, space, is_space, without_spaces, is_at_separator}
use Rattle.line_points.specs.Numbers.{is_digits, number_of, with_sign}
use Rattle.line_points.specs.Line.{nanoseconds, unit_of, missing_time as time_missing, time_of_units, word_time, time_of}
use Rattle.line_points.specs.Grammar.{minus, spaces, SpellsTime, no_time as none_spelled, some_time}
use Rattle.line_points.specs.FaultRows.{TimeWord, TimeFault, missing_time, far_time, no_time}
use Rattle.kap_base.proofs.TestLaws.{err_is}
use Rattle.line_points.proofs.ValueLaws.{number_taken, number_again}
use Rattle.line_points.proofs.PlaceLaws.{word_ends}
use Rattle.line_points.proofs.SpaceLaws.{after_spaces, spaces_skipped, only_spaces, are_spaces, spaces_are, some_before, behind_spaces, place_end}
use Rattle.line_points.proofs.TimeLaws.{empty_nil, number_whole, number_first, number_some, time_taken}

-- ---- what is read of spaces, and of a number

spaces_read : (mode : Mode) (bytes : List ℕ) (n : ℕ) → bytes ≡ spaces n → time_of mode (without_spaces bytes) ≡ time_missing mode
unfolding time_of
spaces_read mode bytes n is = rw (is, only_spaces n) refl

word_read : (mode : Mode) (negative : Bool) (digits : List ℕ) (behind : ℕ) → is_digits digits ≡ true → time_of mode ((minus negative ++ digits) ++ spaces behind) ≡ time_of_units (unit_of mode) (negative, digits_value 10 digits)
unfolding time_of
word_read mode negative digits behind all =
    let word = minus negative ++ digits in
    let ends = word_ends is_space word (spaces behind) (number_whole negative digits all) (place_end behind) in
    rw (number_some negative digits (spaces behind) all, ends.behind, are_spaces behind, ends.before, number_again negative digits all) refl

number_read : (mode : Mode) (bytes : List ℕ) → (t : TimeWord bytes) → time_of mode (without_spaces bytes) ≡ time_of_units (unit_of mode) (t.negative, digits_value 10 t.digits)
number_read mode bytes t =
    ap (λ (x : List ℕ). time_of mode (without_spaces x)) t.is
    ∙ ap (time_of mode) (spaces_skipped t.more ((minus t.negative ++ t.digits) ++ spaces t.behind) (number_first t.negative t.digits (spaces t.behind) t.all))
    ∙ word_read mode t.negative t.digits t.behind t.all

missing_else : (mode : Mode) → time_missing mode ≡ Err faults.Time → ⊥
missing_else (Live unit now) e = cc
missing_else Recording e = cc

scaled_else : (unit : TimeUnit) (n : Bool × ℕ) → time_of_units unit n ≡ Err faults.Time → ⊥
scaled_else unit n e = by_test (nat_le (n.1 * nanoseconds unit) TIME_LIMIT) e
  where
    by_test : (b : Bool) → cond b (Ok (with_sign (n.0, n.1 * nanoseconds unit))) (Err faults.TimeRange) ≡ Err faults.Time → ⊥
    by_test true e = cc
    by_test false e = cc

none_here : (mode : Mode) (bytes : List ℕ) (f : LineFault) → time_of mode (without_spaces bytes) ≡ Err f → faults.Time ≡ f → TimeFault mode bytes f
none_here mode bytes f read is =
    let so : time_of mode (without_spaces bytes) ≡ Err faults.Time = read ∙ ap (λ (x : LineFault). Err x) (sym is) in
    subst (TimeFault mode bytes) is (no_time
    (λ n spaces. missing_else mode (sym (spaces_read mode bytes n spaces) ∙ so))
    (λ t. scaled_else (unit_of mode) (t.negative, digits_value 10 t.digits) (sym (number_read mode bytes t) ∙ so)))

-- ---- what is faulty

missing_fault : (mode : Mode) (bytes : List ℕ) (n : ℕ) (f : LineFault) → bytes ≡ spaces n → time_missing mode ≡ Err f → TimeFault mode bytes f
missing_fault (Live unit now) bytes n f is e = absurd cc
missing_fault Recording bytes n f is e = subst (TimeFault Recording bytes) (err_is {A = ℤ} faults.NoTime f e) (missing_time n refl is)

-- the word between the spaces
record TimeCut (bytes word : List ℕ) : Type 0 where
  more : ℕ
  behind : ℕ
  is : bytes ≡ space ∷ (spaces more ++ (word ++ spaces behind))

time_cut : (bytes : List ℕ) → is_at_separator bytes ≡ true → begins_with comma bytes ≡ false → is_empty (without_spaces bytes) ≡ false → list_all is_space (drop (position_or_len is_space (without_spaces bytes)) (without_spaces bytes)) ≡ true → TimeCut bytes (before_first is_space (without_spaces bytes))
time_cut bytes next none some all =
    let rest = without_spaces bytes in
    let word = before_first is_space rest in
    let tail = drop (position_or_len is_space rest) rest in
    let s = behind_spaces bytes next none (some_before bytes some) in
    let cut : rest ≡ word ++ spaces (length tail) = sym (take-append-drop (position_or_len is_space rest) rest) ∙ ap (λ (x : List ℕ). word ++ x) (spaces_are tail all) in
    record { more = s.more; behind = length tail; is = s.is ∙ ap (λ (x : List ℕ). space ∷ (spaces s.more ++ x)) cut }

far_fault : (mode : Mode) (bytes word : List ℕ) (number : Bool × ℕ) (f : LineFault) → TimeCut bytes word → number_of word ≡ Some number → time_of_units (unit_of mode) number ≡ Err f → TimeFault mode bytes f
far_fault mode bytes word number f c read e =
    let n = number_taken word number read in
    let size : digits_value 10 n.digits ≡ number.1 = ap (λ (x : Bool × ℕ). x.1) n.value in
    let t : TimeWord bytes = record { more = c.more; negative = number.0; digits = n.digits; behind = c.behind; is = c.is ∙ ap (λ (x : List ℕ). space ∷ (spaces c.more ++ (x ++ spaces c.behind))) n.is; all = n.all } in
    by_test (nat_le (number.1 * nanoseconds (unit_of mode)) TIME_LIMIT) refl e (λ far. far_time t (ap (λ (x : ℕ). nat_le (x * nanoseconds (unit_of mode)) TIME_LIMIT) size ∙ far))
  where
    by_test : (b : Bool) → nat_le (number.1 * nanoseconds (unit_of mode)) TIME_LIMIT ≡ b → cond b (Ok (with_sign (number.0, number.1 * nanoseconds (unit_of mode)))) (Err faults.TimeRange) ≡ Err f → (nat_le (number.1 * nanoseconds (unit_of mode)) TIME_LIMIT ≡ false → TimeFault mode bytes faults.TimeRange) → TimeFault mode bytes f
    by_test true range e made = absurd cc
    by_test false range e made = subst (TimeFault mode bytes) (err_is {A = ℤ} faults.TimeRange f e) (made range)

pub time_fault : (mode : Mode) (bytes : List ℕ) (f : LineFault) → is_at_separator bytes ≡ true → begins_with comma bytes ≡ false → time_of mode (without_spaces bytes) ≡ Err f → TimeFault mode bytes f
unfolding time_of
time_fault mode bytes f next none read = by_empty (is_empty (without_spaces bytes)) refl read
  where
    by_word : (o : Option (Bool × ℕ)) → is_empty (without_spaces bytes) ≡ false → list_all is_space (drop (position_or_len is_space (without_spaces bytes)) (without_spaces bytes)) ≡ true → number_of (before_first is_space (without_spaces bytes)) ≡ o → option_map_or (time_of_units (unit_of mode)) o (Err faults.Time) ≡ Err f → TimeFault mode bytes f
    by_word None some all is e = none_here mode bytes f read (err_is {A = ℤ} faults.Time f e)
    by_word (Some number) some all is e = far_fault mode bytes (before_first is_space (without_spaces bytes)) number f (time_cut bytes next none some all) is e

    by_tail : (b : Bool) → is_empty (without_spaces bytes) ≡ false → list_all is_space (drop (position_or_len is_space (without_spaces bytes)) (without_spaces bytes)) ≡ b → cond b (word_time mode (before_first is_space (without_spaces bytes))) (Err faults.Time) ≡ Err f → TimeFault mode bytes f
    by_tail false some all e = none_here mode bytes f read (err_is {A = ℤ} faults.Time f e)
    by_tail true some all e = by_word (number_of (before_first is_space (without_spaces bytes))) some all refl e

    by_empty : (b : Bool) → is_empty (without_spaces bytes) ≡ b → cond b (time_missing mode) (cond (list_all is_space (drop (position_or_len is_space (without_spaces bytes)) (without_spaces bytes))) (word_time mode (before_first is_space (without_spaces bytes))) (Err faults.Time)) ≡ Err f → TimeFault mode bytes f
    by_empty true empty e =
        let s = after_spaces bytes in
        missing_fault mode bytes s.count f (s.is ∙ ap (λ (x : List ℕ). spaces s.count ++ x) (empty_nil (without_spaces bytes) empty) ∙ append-nil (spaces s.count)) e
    by_empty false some e = by_tail (list_all is_space (drop (position_or_len is_space (without_spaces bytes)) (without_spaces bytes))) some refl e

-- ---- such a time is faulty

far_read : (unit : TimeUnit) (n : Bool × ℕ) → nat_le (n.1 * nanoseconds unit) TIME_LIMIT ≡ false → time_of_units unit n ≡ Err faults.TimeRange
far_read unit n far = rw far refl

pub time_fault_read : (mode : Mode) (bytes : List ℕ) (f : LineFault) → is_at_separator bytes ≡ true → begins_with comma bytes ≡ false → TimeFault mode bytes f → time_of mode (without_spaces bytes) ≡ Err f
time_fault_read mode bytes _ next none (missing_time n is_mode is) = spaces_read mode bytes n is ∙ ap time_missing is_mode
time_fault_read mode bytes _ next none (far_time t far) = number_read mode bytes t ∙ far_read (unit_of mode) (t.negative, digits_value 10 t.digits) far
time_fault_read mode bytes _ next none (no_time no_spaces no_word) = by_time (time_of mode (without_spaces bytes)) refl
  where
    by_fault : (f : LineFault) → TimeFault mode bytes f → ◌≡◌ {A = Result ℤ LineFault} (Err f) (Err faults.Time)
    by_fault _ (missing_time n is_mode is) = absurd (no_spaces n is)
    by_fault _ (far_time t far) = absurd (no_word t)
    by_fault _ (no_time s w) = refl

    by_spelling : (m : Mode) (t : ℤ) (time : List ℕ) (behind : ℕ) → bytes ≡ time ++ spaces behind → SpellsTime m t time → ⊥
    by_spelling _ _ _ behind is (none_spelled unit now) = no_spaces behind is
    by_spelling _ _ _ behind is (some_time m n negative digits all range) =
        no_word (record { more = n; negative = negative; digits = digits; behind = behind; is = is ∙ ap (λ (x : List ℕ). space ∷ x) (append_assoc (spaces n) (minus negative ++ digits) (spaces behind)); all = all })

    by_time : (r : Result ℤ LineFault) → time_of mode (without_spaces bytes) ≡ r → r ≡ Err faults.Time
    by_time (Ok t) read = let taken = time_taken mode t bytes next none read in absurd (by_spelling mode t taken.time taken.behind taken.is taken.spells)
    by_time (Err f) read = by_fault f (time_fault mode bytes f next none read)
