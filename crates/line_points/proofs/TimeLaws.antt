-- A time that is read is spelled so, and a time that is spelled is read.
use Rattle.std.proofs.Common.{◌≡◌, ℕ, zero, suc, ◌*◌, Bool, true, false, not, cond, Option, Some, None, List, [], ◌∷◌, ◌++◌, length, drop, Ok, Err, refl, sym, ap, subst, ◌∙◌, append_assoc, arith}
use Rattle.std.specs.Prelude.{ℤ, Result, nat_le}
use Rattle.std.specs.Char.{is_ascii_digit}
use Rattle.std.specs.List.{list_all, before_first, position_or_len}
use Rattle.std.specs.Option.{option_map, option_map_or}
use Rattle.std.specs.Str.Parse.{digits_value}
use Rattle.std.proofs.lemmas.Bool.Decides.{nat_tests}
use Rattle.std.proofs.lemmas.List.{append-nil, take-append-drop}
use Rattle.kap_base.specs.Texts.{is_empty, begins_with}
use Rattle.kap_base.specs.declared.limits.TheConstants.{TIME_LIMIT}
use Rattle.line_points.specs.declared.fault.LineFault.{LineFault}
use Rattle.line_points.specs.declared.fault.LineFault.TheVariants as faults
use Rattle.line_points.specs.declared.mode.Unit.{Unit as TimeUnit}
use Rattle.line_points.specs.declared.mode.Mode.{Mode}
use Rattle.line_points.specs.declared.mode.Mode.TheVariants.{Live, Recording}
use Rattle.line_points.specs.Parts.{comma, space, begins, is_space, without_spaces, is_at_separator}
use Rattle.line_points.specs.Cap.{cap}
use Rattle.line_points.specs.Numbers.{is_digits, number_of, with_sign}
use Rattle.line_points.specs.Line.{nanoseconds, unit_of, missing_time, time_of_units, word_time, time_of}
use Rattle.line_points.specs.Grammar.{minus, spaces, SpellsTime, no_time, some_time}
use Rattle.kap_base.proofs.TestLaws.{second_of, ok_is, guard_ok, then_ok}
use Rattle.line_points.proofs.ValueLaws.{number_taken, number_again}
use Rattle.line_points.proofs.PlaceLaws.{word_ends}
use Rattle.line_points.proofs.SpaceLaws.{after_spaces, spaces_skipped, only_spaces, are_spaces, spaces_are, some_before, behind_spaces, place_end}

-- what stands behind the fields is a spelling of the time, and spaces
pub record TimeTaken (mode : Mode) (t : ℤ) (rest : List ℕ) : Type 0 where
  pub time : List ℕ
  pub behind : ℕ
  pub is : rest ≡ time ++ spaces behind
  pub spells : SpellsTime mode t time

pub empty_nil : (bytes : List ℕ) → is_empty bytes ≡ true → bytes ≡ []
empty_nil [] h = refl
empty_nil (b ∷ bs) h = absurd cc

missing_taken : (mode : Mode) (t : ℤ) (rest : List ℕ) (n : ℕ) → rest ≡ spaces n → missing_time mode ≡ Ok t → TimeTaken mode t rest
missing_taken (Live unit now) t rest n is e =
    let made : TimeTaken (Live unit now) now rest = record { time = []; behind = n; is = is; spells = no_time unit now } in
    subst (λ (x : ℤ). TimeTaken (Live unit now) x rest) (ok_is {E = LineFault} now t e) made
missing_taken Recording t rest n is e = absurd cc

number_time : (mode : Mode) (t : ℤ) (word : List ℕ) (more : ℕ) (number : Bool × ℕ) → number_of word ≡ Some number → time_of_units (unit_of mode) number ≡ Ok t → SpellsTime mode t (space ∷ (spaces more ++ word))
number_time mode t word more number read e =
    let n = number_taken word number read in
    let g = guard_ok (nat_le (number.1 * nanoseconds (unit_of mode)) TIME_LIMIT) faults.TimeRange (with_sign (number.0, number.1 * nanoseconds (unit_of mode))) t e in
    let size : digits_value 10 n.digits ≡ number.1 = ap (λ (x : Bool × ℕ). x.1) n.value in
    let range : nat_le (digits_value 10 n.digits * nanoseconds (unit_of mode)) TIME_LIMIT ≡ true = ap (λ (x : ℕ). nat_le (x * nanoseconds (unit_of mode)) TIME_LIMIT) size ∙ g.0 in
    let value : with_sign (number.0, digits_value 10 n.digits * nanoseconds (unit_of mode)) ≡ t = ap (λ (x : ℕ). with_sign (number.0, x * nanoseconds (unit_of mode))) size ∙ g.1 in
    subst (λ (x : List ℕ). SpellsTime mode t (space ∷ (spaces more ++ x))) (sym n.is)
    (subst (λ (x : ℤ). SpellsTime mode x (space ∷ (spaces more ++ (minus number.0 ++ n.digits)))) value (some_time mode more number.0 n.digits n.all range))

word_taken : (mode : Mode) (t : ℤ) (word : List ℕ) (more : ℕ) → word_time mode word ≡ Ok t → SpellsTime mode t (space ∷ (spaces more ++ word))
word_taken mode t word more e = by_number mode t word more (number_of word) refl e
  where
    by_number : (mode : Mode) (t : ℤ) (word : List ℕ) (more : ℕ) (o : Option (Bool × ℕ)) → number_of word ≡ o → option_map_or (time_of_units (unit_of mode)) o (Err faults.Time) ≡ Ok t → SpellsTime mode t (space ∷ (spaces more ++ word))
    by_number mode t word more (Some number) read e = number_time mode t word more number read e
    by_number mode t word more None read e = absurd cc

given_taken : (mode : Mode) (t : ℤ) (rest : List ℕ) → is_at_separator rest ≡ true → begins_with comma rest ≡ false → is_empty (without_spaces rest) ≡ false → list_all is_space (drop (position_or_len is_space (without_spaces rest)) (without_spaces rest)) ≡ true → word_time mode (before_first is_space (without_spaces rest)) ≡ Ok t → TimeTaken mode t rest
given_taken mode t rest next none some all e =
    let bytes = without_spaces rest in
    let word = before_first is_space bytes in
    let tail = drop (position_or_len is_space bytes) bytes in
    let s = behind_spaces rest next none (some_before rest some) in
    let cut : bytes ≡ word ++ spaces (length tail) = sym (take-append-drop (position_or_len is_space bytes) bytes) ∙ ap (λ (x : List ℕ). word ++ x) (spaces_are tail all) in
    record {
      time = space ∷ (spaces s.more ++ word);
      behind = length tail;
      is = s.is ∙ ap (λ (x : List ℕ). space ∷ x) (ap (λ (x : List ℕ). spaces s.more ++ x) cut ∙ sym (append_assoc (spaces s.more) word (spaces (length tail))));
      spells = word_taken mode t word s.more e;
    }

pub time_taken : (mode : Mode) (t : ℤ) (rest : List ℕ) → is_at_separator rest ≡ true → begins_with comma rest ≡ false → time_of mode (without_spaces rest) ≡ Ok t → TimeTaken mode t rest
unfolding time_of
time_taken mode t rest next none e =
    let bytes = without_spaces rest in
    elim (is_empty bytes) as (λ b. is_empty bytes ≡ b → cond b (missing_time mode) (cond (list_all is_space (drop (position_or_len is_space bytes) bytes)) (word_time mode (before_first is_space bytes)) (Err faults.Time)) ≡ Ok t → TimeTaken mode t rest) [
      | true ↦ λ b e.
          let s = after_spaces rest in
          missing_taken mode t rest s.count (s.is ∙ ap (λ (x : List ℕ). spaces s.count ++ x) (empty_nil bytes b) ∙ append-nil (spaces s.count)) e
      | false ↦ λ b e.
          let g = then_ok (list_all is_space (drop (position_or_len is_space bytes) bytes)) faults.Time (word_time mode (before_first is_space bytes)) t e in
          given_taken mode t rest next none b g.0 g.1
    ] refl e

-- ---- what is spelled is read

digits_whole : (digits : List ℕ) → list_all is_ascii_digit digits ≡ true → list_all (λ b. not (is_space b)) digits ≡ true
digits_whole [] all = refl
digits_whole (d ∷ digits) all =
    let here : not (is_space d) ≡ true = grind (arith, nat_tests) in
    rw here (digits_whole digits (second_of _ _ all))

pub number_whole : (negative : Bool) (digits : List ℕ) → is_digits digits ≡ true → list_all (λ b. not (is_space b)) (minus negative ++ digits) ≡ true
number_whole true digits all = digits_whole digits (second_of _ _ all)
number_whole false digits all = digits_whole digits (second_of _ _ all)

pub number_first : (negative : Bool) (digits rest : List ℕ) → is_digits digits ≡ true → begins is_space ((minus negative ++ digits) ++ rest) ≡ false
number_first true digits rest all = refl
number_first false [] rest all = absurd cc
number_first false (d ∷ digits) rest all = grind (arith, nat_tests)

pub number_some : (negative : Bool) (digits rest : List ℕ) → is_digits digits ≡ true → is_empty ((minus negative ++ digits) ++ rest) ≡ false
number_some true digits rest all = refl
number_some false [] rest all = absurd cc
number_some false (d ∷ digits) rest all = refl

given_again : (mode : Mode) (negative : Bool) (digits : List ℕ) (behind : ℕ) → is_digits digits ≡ true → nat_le (digits_value 10 digits * nanoseconds (unit_of mode)) TIME_LIMIT ≡ true → time_of mode ((minus negative ++ digits) ++ spaces behind) ≡ Ok (with_sign (negative, digits_value 10 digits * nanoseconds (unit_of mode)))
unfolding time_of
given_again mode negative digits behind all range =
    let word = minus negative ++ digits in
    let ends = word_ends is_space word (spaces behind) (number_whole negative digits all) (place_end behind) in
    rw (number_some negative digits (spaces behind) all, ends.behind, are_spaces behind, ends.before, number_again negative digits all, range) refl

-- a number and nothing else counts the units of the time
pub time_of_number : (mode : Mode) (bytes : List ℕ) (number : Bool × ℕ) → number_of bytes ≡ Some number → time_of mode bytes ≡ time_of_units (unit_of mode) number
unfolding time_of
time_of_number mode bytes number read =
    let n = number_taken bytes number read in
    let word = minus number.0 ++ n.digits in
    let same : bytes ≡ word ++ [] = n.is ∙ sym (append-nil word) in
    let here : number_of word ≡ Some number = ap number_of (sym n.is) ∙ read in
    let ends = word_ends is_space word [] (number_whole number.0 n.digits n.all) refl in
    rw same (rw (number_some number.0 n.digits [] n.all, ends.behind, ends.before, here) refl)

pub chosen_number : (mode : Mode) (bytes : List ℕ) (o : Option (Bool × ℕ)) (x : Bool × ℕ) (r : Result ℤ LineFault) → number_of bytes ≡ o → Some x ≡ option_map cap o → ((n : Bool × ℕ) → x ≡ cap n → r ≡ time_of_units (unit_of mode) n) → r ≡ time_of mode bytes
chosen_number mode bytes (Some n) x r read e is = let same : x ≡ cap n = cc in is n same ∙ sym (time_of_number mode bytes n read)
chosen_number mode bytes None x r read e is = absurd cc

missing_again : (unit : TimeUnit) (now : ℤ) → time_of (Live unit now) [] ≡ Ok now
unfolding time_of
missing_again unit now = refl

pub time_again : {mode : Mode} {t : ℤ} {time : List ℕ} → SpellsTime mode t time → (behind : ℕ) → time_of mode (without_spaces (time ++ spaces behind)) ≡ Ok t
time_again (no_time unit now) behind = ap (time_of (Live unit now)) (only_spaces behind) ∙ missing_again unit now
time_again (some_time mode n negative digits all range) behind =
    ap (λ (x : List ℕ). time_of mode (without_spaces x)) (append_assoc (spaces n) (minus negative ++ digits) (spaces behind))
    ∙ ap (time_of mode) (spaces_skipped n ((minus negative ++ digits) ++ spaces behind) (number_first negative digits (spaces behind) all))
    ∙ given_again mode negative digits behind all range

next-spaces : (n : ℕ) → is_at_separator (spaces n) ≡ true
next-spaces zero = refl
next-spaces (suc n) = refl

pub next-time : {mode : Mode} {t : ℤ} {time : List ℕ} → SpellsTime mode t time → (behind : ℕ) → is_at_separator (time ++ spaces behind) ≡ true
next-time (no_time unit now) behind = next-spaces behind
next-time (some_time mode n negative digits all range) behind = refl

no_comma-spaces : (n : ℕ) → begins_with comma (spaces n) ≡ false
no_comma-spaces zero = refl
no_comma-spaces (suc n) = refl

pub no_comma-time : {mode : Mode} {t : ℤ} {time : List ℕ} → SpellsTime mode t time → (behind : ℕ) → begins_with comma (time ++ spaces behind) ≡ false
no_comma-time (no_time unit now) behind = no_comma-spaces behind
no_comma-time (some_time mode n negative digits all range) behind = refl
