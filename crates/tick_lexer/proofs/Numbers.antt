-- Numbers: what is spelled as one is found, and what is found is spelled so; likewise their faults.
use Rattle.std.proofs.Common.{◌≡◌, ℕ, ◌+◌, ◌*◌, ◌<◌, ◌≤◌, ◌^◌, Bool, true, false, cond, eqb, ltb, leb, ◌||◌, List, [], ◌∷◌, ◌++◌, length, drop, refl, sym, ap, ◌∙◌, subst, arith, pos, lt-ltb, ltb-true, ltb-false, append_assoc, length-append, Option, Some, None}
use Rattle.std.proofs.lemmas.Bool.Decides.{nat_tests}
use Rattle.std.proofs.lemmas.List.Sums.{take_while-cons}
use Rattle.std.proofs.Math.Seq.{drop-append_seam}
use Rattle.std.specs.List.{take_while}
use Rattle.std.specs.Str.Parse.{AllDigits, IsNumeral, digits_value}
use Rattle.std.specs.Char.{digit_value}
use Rattle.kap_base.specs.declared.expr.Lit.TheVariants.{Int, Dur}
use Rattle.tick_lexer.specs.declared.limits.TheConstants.{DURATION_LIMIT}
use Rattle.tick_lexer.specs.declared.token.Kind.TheVariants.{Literal}
use Rattle.tick_lexer.specs.declared.token.LexFault.{LexFault}
use Rattle.tick_lexer.specs.declared.token.LexFault.TheVariants.{BadChar, OpenString, OpenRegex, BadNumber, FloatLiteral, OctalLiteral, WideInt, WideDuration, UserFunction, NoMemory}
use Rattle.tick_lexer.specs.declared.unit.Unit as units
use Rattle.tick_lexer.specs.declared.unit.Unit.TheVariants.{Week, Day, Hour, Minute, Second, Milli, Micro, MicroSign}
use Rattle.tick_lexer.specs.Bytes.{is_letter, is_digit, is_word, AllPass, starts, NotFirst, starts_micro}
use Rattle.tick_lexer.specs.Spelling.{has_leading_zero, IsPlainNumeral, unit_bytes, unit_nanos, IsDuration, is_dot, EndsInt}
use Rattle.tick_lexer.specs.Script.{Digits, IsBadNumber, BeginsBadNumber, place_of}
use Rattle.tick_lexer.specs.Front.{Took, Bad, unit_at, integer, duration, measured, numeral, number, front}
use Rattle.tick_lexer.proofs.Choices.{cond_true, cond_false, choose, or_false, or_left, and_left, and_true, is_same}
use Rattle.tick_lexer.proofs.Scans.{digits_pass}
use Rattle.tick_lexer.proofs.Sound.{Sound, sound_took, sound_bad}
use Rattle.tick_lexer.proofs.Words.{front_digit, pass_all, run_of}

digit_passes : (b : ℕ) → digit_value b < 10 → is_digit b ≡ true
digit_passes b h = grind arith

digit_no_letter : (b : ℕ) → is_digit b ≡ true → is_letter b ≡ false
digit_no_letter b h = grind arith

digits_all : (s : List ℕ) → AllDigits 10 s → AllPass is_digit s
digits_all [] h = tt
digits_all (b ∷ bs) h = (digit_passes b h.0, digits_all bs h.1)

word_no_digit : (rest : List ℕ) → NotFirst is_word rest → NotFirst is_digit rest
word_no_digit [] h = refl
word_no_digit (b ∷ rest) h = let parts = or_false (is_letter b) (is_digit b) h in parts.1

-- all digits at the front are taken
digits_front : (pattern : Bool) (at : ℕ) (digits tail : List ℕ) → IsNumeral 10 digits → NotFirst is_digit tail → front pattern at (digits ++ tail) ≡ numeral at digits tail
digits_front pattern at [] tail h k = let e = h.0 in absurd (omega arith)
digits_front pattern at (b ∷ bs) tail h k =
    let digits = b ∷ bs in
    let all = h.1 in
    let digit = digit_passes b all.0 in
    front_digit pattern at b (bs ++ tail) (digit_no_letter b digit) digit
    ∙ ap (λ (l : List ℕ). numeral at l (drop (length l) (digits ++ tail))) (pass_all is_digit digits tail (digits_all digits all) k)
    ∙ ap (λ (l : List ℕ). numeral at digits l) (drop-append_seam digits tail)

no_micro : (b : ℕ) (bs : List ℕ) → eqb b 194 ≡ false → starts_micro (b ∷ bs) ≡ false
no_micro b [] h = refl
no_micro b (c ∷ bs) h = and_left (eqb b 194) (eqb c 181) h

-- the rest of the choice of a unit
abbrev letter_unit : List ℕ → Option units.Unit
letter_unit tail =
    cond (starts (eqb 117) tail) (Some Micro)
    (cond (starts (eqb 109) tail) (cond (starts (eqb 115) (drop 1 tail)) (Some Milli) (Some Minute))
    (cond (starts (eqb 115) tail) (Some Second)
    (cond (starts (eqb 104) tail) (Some Hour)
    (cond (starts (eqb 100) tail) (Some Day)
    (cond (starts (eqb 119) tail) (Some Week) None)))))

letter_at : (tail : List ℕ) → starts_micro tail ≡ false → unit_at tail ≡ letter_unit tail
letter_at tail h = cond_false (starts_micro tail) (Some MicroSign) (letter_unit tail) h

no_second : (back : List ℕ) → NotFirst is_word back → starts (eqb 115) back ≡ false
no_second [] h = refl
no_second (b ∷ back) h =
    let go : (t : Bool) → eqb 115 b ≡ t → t ≡ false =
    elim [
      | true ↦ λ e. let bad : is_word b ≡ true = ap is_word (sym (is_same 115 b e)) in absurd (cc)
      | false ↦ λ e. refl
    ] in
    go (eqb 115 b) refl

-- a unit that no byte of a word follows is found
unit_some : (unit : units.Unit) (back : List ℕ) → NotFirst is_word back → unit_at (unit_bytes unit ++ back) ≡ Some unit
unit_some Week back h = letter_at (119 ∷ back) (no_micro 119 back refl)
unit_some Day back h = letter_at (100 ∷ back) (no_micro 100 back refl)
unit_some Hour back h = letter_at (104 ∷ back) (no_micro 104 back refl)
unit_some Minute back h = letter_at (109 ∷ back) (no_micro 109 back refl) ∙ cond_false (starts (eqb 115) back) (Some Milli) (Some Minute) (no_second back h)
unit_some Second back h = letter_at (115 ∷ back) (no_micro 115 back refl)
unit_some Milli back h = letter_at (109 ∷ 115 ∷ back) (no_micro 109 (115 ∷ back) refl)
unit_some Micro back h = letter_at (117 ∷ back) (no_micro 117 back refl)
unit_some MicroSign back h = refl

-- the unit that is found stands first
record UnitAt (tail : List ℕ) (unit : units.Unit) : Type 0 where
  pub back : List ℕ
  pub joined : tail ≡ unit_bytes unit ++ back

abbrev FindsUnit : List ℕ → Option units.Unit → Type 0
FindsUnit tail o = (unit : units.Unit) → o ≡ Some unit → UnitAt tail unit

unit_is : (tail : List ℕ) (unit : units.Unit) (back : List ℕ) → tail ≡ unit_bytes unit ++ back → FindsUnit tail (Some unit)
unit_is tail unit back e other h =
    let same : unit ≡ other = cc in
    let P : units.Unit → Type 0 = λ u. UnitAt tail u in
    let it : P unit = record { back = back; joined = e } in
    subst P same it

first_is : (k : ℕ) (tail : List ℕ) → starts (eqb k) tail ≡ true → (back : List ℕ) × (tail ≡ k ∷ back)
first_is k [] h = absurd (cc)
first_is k (b ∷ back) h = (back, ap (λ (x : ℕ). x ∷ back) (sym (is_same k b h)))

micro_is : (tail : List ℕ) → starts_micro tail ≡ true → (back : List ℕ) × (tail ≡ 194 ∷ 181 ∷ back)
micro_is [] h = absurd (cc)
micro_is (b ∷ []) h = absurd (cc)
micro_is (b ∷ c ∷ back) h =
    let both = and_true (eqb b 194) (eqb c 181) h in
    (back, ap (λ (x : ℕ). x ∷ c ∷ back) (is_same b 194 both.0) ∙ ap (λ (x : ℕ). 194 ∷ x ∷ back) (is_same c 181 both.1))

one_letter : (k : ℕ) (unit : units.Unit) (tail : List ℕ) → unit_bytes unit ≡ k ∷ [] → starts (eqb k) tail ≡ true → FindsUnit tail (Some unit)
one_letter k unit tail u h =
    let f = first_is k tail h in
    unit_is tail unit f.0 (f.1 ∙ ap (λ (l : List ℕ). l ++ f.0) (sym u))

minutes : (tail : List ℕ) → starts (eqb 109) tail ≡ true → FindsUnit tail (cond (starts (eqb 115) (drop 1 tail)) (Some Milli) (Some Minute))
minutes [] h = absurd (cc)
minutes (b ∷ bs) h =
    let is : (b ∷ bs) ≡ 109 ∷ bs = ap (λ (x : ℕ). x ∷ bs) (sym (is_same 109 b h)) in
    choose (FindsUnit (b ∷ bs)) (starts (eqb 115) bs) (Some Milli) (Some Minute)
    (λ e. let f = first_is 115 bs e in unit_is (b ∷ bs) Milli f.0 (is ∙ ap (λ (l : List ℕ). 109 ∷ l) f.1))
    (λ e. unit_is (b ∷ bs) Minute bs is)

unit_found : (tail : List ℕ) → FindsUnit tail (unit_at tail)
unit_found tail =
    let P = FindsUnit tail in
    choose P (starts_micro tail) _ _ (λ e. let f = micro_is tail e in unit_is tail MicroSign f.0 f.1)
    (λ a. choose P (starts (eqb 117) tail) _ _ (λ e. one_letter 117 Micro tail refl e)
    (λ b. choose P (starts (eqb 109) tail) _ _ (λ e. minutes tail e)
    (λ c. choose P (starts (eqb 115) tail) _ _ (λ e. one_letter 115 Second tail refl e)
    (λ d. choose P (starts (eqb 104) tail) _ _ (λ e. one_letter 104 Hour tail refl e)
    (λ f. choose P (starts (eqb 100) tail) _ _ (λ e. one_letter 100 Day tail refl e)
    (λ g. choose P (starts (eqb 119) tail) _ _ (λ e. one_letter 119 Week tail refl e)
    (λ h unit (x : None ≡ Some unit). absurd (cc))))))))

-- behind a unit that stands first where none is found, a byte of a word stands
none_stands : (tail back : List ℕ) (unit : units.Unit) → unit_at tail ≡ None → tail ≡ unit_bytes unit ++ back → starts is_word back ≡ true
none_stands tail back unit h e =
    let go : (t : Bool) → starts is_word back ≡ t → t ≡ true =
    elim [
      | true ↦ λ f. refl
      | false ↦ λ f. let some = ap (λ (l : List ℕ). unit_at l) e ∙ unit_some unit back f in absurd (cc)
    ] in
    go (starts is_word back) refl

cons_same : (b c : ℕ) (xs ys : List ℕ) → (b ∷ xs) ≡ c ∷ ys → xs ≡ ys
cons_same b c xs ys h = cc

append_same : (front xs ys : List ℕ) → front ++ xs ≡ front ++ ys → xs ≡ ys
append_same [] xs ys h = h
append_same (b ∷ front) xs ys h = append_same front xs ys (cons_same b b (front ++ xs) (front ++ ys) h)

-- the same, where another unit is found that a byte of a word follows
other_stands : (tail back : List ℕ) (unit : units.Unit) (rest : List ℕ) (other : units.Unit) → unit_at tail ≡ Some unit → tail ≡ unit_bytes unit ++ back → starts is_word back ≡ true → tail ≡ unit_bytes other ++ rest → starts is_word rest ≡ true
other_stands tail back unit rest other h e w f =
    let go : (t : Bool) → starts is_word rest ≡ t → t ≡ true =
    elim [
      | true ↦ λ g. refl
      | false ↦ λ g.
          let some = ap (λ (l : List ℕ). unit_at l) f ∙ unit_some other rest g in
          let same : unit ≡ other = cc in
          let joined : unit_bytes unit ++ back ≡ unit_bytes unit ++ rest = sym e ∙ f ∙ ap (λ (u : units.Unit). unit_bytes u ++ rest) (sym same) in
          let backs : back ≡ rest = append_same (unit_bytes unit) back rest joined in
          let word = ap (λ (l : List ℕ). starts is_word l) backs in
          absurd (cc)
    ] in
    go (starts is_word rest) refl

-- with a unit a text begins with a letter or the micro sign
unit_follows : (unit : units.Unit) (back : List ℕ) → (starts is_word (unit_bytes unit ++ back) || starts_micro (unit_bytes unit ++ back)) ≡ true
unit_follows Week back = refl
unit_follows Day back = refl
unit_follows Hour back = refl
unit_follows Minute back = refl
unit_follows Second back = refl
unit_follows Milli back = refl
unit_follows Micro back = refl
unit_follows MicroSign back = refl

unit_no_digit : (unit : units.Unit) (back : List ℕ) → NotFirst is_digit (unit_bytes unit ++ back)
unit_no_digit Week back = refl
unit_no_digit Day back = refl
unit_no_digit Hour back = refl
unit_no_digit Minute back = refl
unit_no_digit Second back = refl
unit_no_digit Milli back = refl
unit_no_digit Micro back = refl
unit_no_digit MicroSign back = refl

unit_no_dot : (unit : units.Unit) (back : List ℕ) → starts is_dot (unit_bytes unit ++ back) ≡ false
unit_no_dot Week back = refl
unit_no_dot Day back = refl
unit_no_dot Hour back = refl
unit_no_dot Minute back = refl
unit_no_dot Second back = refl
unit_no_dot Milli back = refl
unit_no_dot Micro back = refl
unit_no_dot MicroSign back = refl

drop_unit : (tail back : List ℕ) (unit : units.Unit) → tail ≡ unit_bytes unit ++ back → drop (length (unit_bytes unit)) tail ≡ back
drop_unit tail back unit e = ap (λ (l : List ℕ). drop (length (unit_bytes unit)) l) e ∙ drop-append_seam (unit_bytes unit) back

no_unit : (tail : List ℕ) → NotFirst is_word tail → starts_micro tail ≡ false → unit_at tail ≡ None
no_unit tail h k =
    let go : (o : Option units.Unit) → unit_at tail ≡ o → o ≡ None =
    elim [
      | None ↦ λ e. refl
      | Some unit ↦ λ e.
          let u = unit_found tail unit e in
          let follows = ap (λ (l : List ℕ). starts is_word l || starts_micro l) u.joined ∙ unit_follows unit u.back in
          let none : (starts is_word tail || starts_micro tail) ≡ false = ap (λ (t : Bool). t || starts_micro tail) h ∙ k in
          absurd (cc)
    ] in
    go (unit_at tail) refl

-- where no unit is found the micro sign doesn't stand
no_micro_at : (tail : List ℕ) → unit_at tail ≡ None → starts_micro tail ≡ false
no_micro_at tail h =
    let go : (t : Bool) → starts_micro tail ≡ t → t ≡ false =
    elim [ true ↦ λ e. let some = cond_true (starts_micro tail) (Some MicroSign) (letter_unit tail) e in absurd (cc) | false ↦ λ e. refl ] in
    go (starts_micro tail) refl

or_first : (a b : Bool) → (a || b) ≡ true → b ≡ false → a ≡ true
or_first true b h k = refl
or_first false b h k = absurd (cc)

-- a dot is no letter, digit or `_`, and doesn't begin the micro sign
word_no_dot : (tail : List ℕ) → (starts is_word tail || starts_micro tail) ≡ true → starts is_dot tail ≡ false
word_no_dot [] h = absurd (cc)
word_no_dot (b ∷ bs) h =
    let go : (t : Bool) → eqb b 46 ≡ t → t ≡ false =
    elim [
      | true ↦ λ e.
          let is = is_same b 46 e in
          let word : is_word b ≡ false = ap is_word is in
          let micro : starts_micro (b ∷ bs) ≡ false = no_micro b bs (ap (λ (x : ℕ). eqb x 194) is) in
          let none : (is_word b || starts_micro (b ∷ bs)) ≡ false = ap (λ (t : Bool). t || starts_micro (b ∷ bs)) word ∙ micro in
          absurd (cc)
      | false ↦ λ e. refl
    ] in
    go (eqb b 46) refl

-- a numeral without a leading zero and a dot behind it
numeral_measured : (at : ℕ) (digits tail : List ℕ) → has_leading_zero digits ≡ false → starts is_dot tail ≡ false → numeral at digits tail ≡ measured at digits tail (unit_at tail)
numeral_measured at digits tail h k =
    cond_false (has_leading_zero digits) (Bad (OctalLiteral at)) (cond (starts is_dot tail) (Bad (FloatLiteral at)) (measured at digits tail (unit_at tail))) h
    ∙ cond_false (starts is_dot tail) (Bad (FloatLiteral at)) (measured at digits tail (unit_at tail)) k

-- digits that are an integer, and ones with a unit
measured_int : (at : ℕ) (digits tail : List ℕ) → EndsInt tail → measured at digits tail (unit_at tail) ≡ integer at digits
measured_int at digits tail h =
    ap (λ (o : Option units.Unit). measured at digits tail o) (no_unit tail h.0 h.2)
    ∙ cond_false (starts is_word tail) (Bad (BadNumber at)) (integer at digits) h.0

measured_unit : (at : ℕ) (digits tail back : List ℕ) (unit : units.Unit) → tail ≡ unit_bytes unit ++ back → NotFirst is_word back → measured at digits tail (unit_at tail) ≡ duration at digits unit
measured_unit at digits tail back unit e h =
    ap (λ (o : Option units.Unit). measured at digits tail o) (ap (λ (l : List ℕ). unit_at l) e ∙ unit_some unit back h)
    ∙ ap (λ (l : List ℕ). cond (starts is_word l) (Bad (BadNumber at)) (duration at digits unit)) (drop_unit tail back unit e)
    ∙ cond_false (starts is_word back) (Bad (BadNumber at)) (duration at digits unit) h

pub int_front : (pattern : Bool) (at : ℕ) (s rest : List ℕ) → IsPlainNumeral s → EndsInt rest → digits_value 10 s < 2 ^ 63 → front pattern at (s ++ rest) ≡ Took (Literal (Int (pos (digits_value 10 s)))) (length s)
int_front pattern at s rest plain h small =
    digits_front pattern at s rest plain.0 (word_no_digit rest h.0)
    ∙ numeral_measured at s rest plain.1 h.1
    ∙ measured_int at s rest h
    ∙ cond_true (ltb (digits_value 10 s) (2 ^ 63)) (Took (Literal (Int (pos (digits_value 10 s)))) (length s)) (Bad (WideInt at)) (lt-ltb (digits_value 10 s) (2 ^ 63) small)

le_test : (m n : ℕ) → m ≤ n → leb m n ≡ true
le_test m n h = grind (arith, nat_tests)

lt_test : (m n : ℕ) → n < m → leb m n ≡ false
lt_test m n h = grind (arith, nat_tests)

test_le : (m n : ℕ) → leb m n ≡ true → m ≤ n
test_le m n h = grind (arith, nat_tests)

test_lt : (m n : ℕ) → leb m n ≡ false → n < m
test_lt m n h = grind (arith, nat_tests)

small_test : (m n : ℕ) → n ≤ m → ltb m n ≡ false
small_test m n h = grind (arith, nat_tests)

pub duration_front : (pattern : Bool) (at nanos : ℕ) (s rest : List ℕ) → IsDuration nanos s → nanos ≤ DURATION_LIMIT → NotFirst is_word rest → front pattern at (s ++ rest) ≡ Took (Literal (Dur (pos nanos))) (length s)
duration_front pattern at nanos s rest d small h =
    let digits = d.digits in
    let unit = d.unit in
    let tail = unit_bytes unit ++ rest in
    let value = digits_value 10 digits * unit_nanos unit in
    let size : length digits + length (unit_bytes unit) ≡ length s = sym (ap (λ (l : List ℕ). length l) d.joined ∙ length-append digits (unit_bytes unit)) in
    let fits : value ≤ DURATION_LIMIT = let v = d.value in omega arith in
    ap (λ (l : List ℕ). front pattern at l) (ap (λ (l : List ℕ). l ++ rest) d.joined ∙ append_assoc digits (unit_bytes unit) rest)
    ∙ digits_front pattern at digits tail d.plain.0 (unit_no_digit unit rest)
    ∙ numeral_measured at digits tail d.plain.1 (unit_no_dot unit rest)
    ∙ measured_unit at digits tail rest unit refl h
    ∙ cond_true (leb value DURATION_LIMIT) (Took (Literal (Dur (pos value))) (length digits + length (unit_bytes unit))) (Bad (WideDuration at)) (le_test value DURATION_LIMIT fits)
    ∙ ap (λ (n : ℕ). Took (Literal (Dur (pos n))) (length digits + length (unit_bytes unit))) (sym d.value)
    ∙ ap (λ (n : ℕ). Took (Literal (Dur (pos nanos))) n) size

-- a bad number is found
bad_front : (fault : LexFault) (digits tail : List ℕ) → IsBadNumber fault digits tail → numeral (place_of fault) digits tail ≡ Bad fault
bad_front (OctalLiteral at) digits tail h = cond_true (has_leading_zero digits) (Bad (OctalLiteral at)) (cond (starts is_dot tail) (Bad (FloatLiteral at)) (measured at digits tail (unit_at tail))) h
bad_front (FloatLiteral at) digits tail h =
    cond_false (has_leading_zero digits) (Bad (OctalLiteral at)) (cond (starts is_dot tail) (Bad (FloatLiteral at)) (measured at digits tail (unit_at tail))) h.0
    ∙ cond_true (starts is_dot tail) (Bad (FloatLiteral at)) (measured at digits tail (unit_at tail)) h.1
bad_front (BadNumber at) digits tail h =
    let n = h.1 in
    let no_dot : starts is_dot tail ≡ false = word_no_dot tail n.follows in
    let go : (o : Option units.Unit) → unit_at tail ≡ o → measured at digits tail o ≡ Bad (BadNumber at) =
    elim [
      | None ↦ λ e. cond_true (starts is_word tail) (Bad (BadNumber at)) (integer at digits) (or_first (starts is_word tail) (starts_micro tail) n.follows (no_micro_at tail e))
      | Some unit ↦ λ e.
          let u = unit_found tail unit e in
          let word : starts is_word (drop (length (unit_bytes unit)) tail) ≡ true = ap (λ (l : List ℕ). starts is_word l) (drop_unit tail u.back unit u.joined) ∙ n.no_end unit u.back u.joined in
          cond_true (starts is_word (drop (length (unit_bytes unit)) tail)) (Bad (BadNumber at)) (duration at digits unit) word
    ] in
    numeral_measured at digits tail h.0 no_dot ∙ go (unit_at tail) refl
bad_front (WideInt at) digits tail h =
    let ends = h.1 in
    numeral_measured at digits tail h.0 ends.1
    ∙ measured_int at digits tail ends
    ∙ cond_false (ltb (digits_value 10 digits) (2 ^ 63)) (Took (Literal (Int (pos (digits_value 10 digits)))) (length digits)) (Bad (WideInt at)) (small_test (digits_value 10 digits) (2 ^ 63) h.2)
bad_front (WideDuration at) digits tail h =
    let w = h.1 in
    let value = digits_value 10 digits * unit_nanos w.unit in
    numeral_measured at digits tail h.0 (ap (λ (l : List ℕ). starts is_dot l) w.joined ∙ unit_no_dot w.unit w.back)
    ∙ measured_unit at digits tail w.back w.unit w.joined w.ends
    ∙ cond_false (leb value DURATION_LIMIT) (Took (Literal (Dur (pos value))) (length digits + length (unit_bytes w.unit))) (Bad (WideDuration at)) (lt_test value DURATION_LIMIT w.wide)
bad_front (BadChar at) digits tail h = elim h [ ]
bad_front (OpenString at) digits tail h = elim h [ ]
bad_front (OpenRegex at) digits tail h = elim h [ ]
bad_front (UserFunction at) digits tail h = elim h [ ]
bad_front NoMemory digits tail h = elim h [ ]

pub bad_number_front : (pattern : Bool) (fault : LexFault) (text : List ℕ) → BeginsBadNumber fault text → front pattern (place_of fault) text ≡ Bad fault
bad_number_front pattern fault text b =
    let d = b.number in
    ap (λ (l : List ℕ). front pattern (place_of fault) l) d.joined
    ∙ digits_front pattern (place_of fault) b.digits b.tail d.numeral d.whole
    ∙ bad_front fault b.digits b.tail b.bad

-- what is found at digits
integer_sound : (pattern : Bool) (at : ℕ) (digits tail text : List ℕ) → Digits digits tail text → has_leading_zero digits ≡ false → EndsInt tail → Sound pattern at text (integer at digits)
integer_sound pattern at digits tail text d plain ends =
    let value = digits_value 10 digits in
    choose (Sound pattern at text) (ltb value (2 ^ 63)) (Took (Literal (Int (pos value))) (length digits)) (Bad (WideInt at))
    (λ e. sound_took pattern at text (Literal (Int (pos value))) (length digits) (record {
      bytes = digits;
      rest = tail;
      joined = d.joined;
      size = refl;
      spelled = ((d.numeral, plain), refl, ltb-true value (2 ^ 63) e);
      ends = ends;
      allowed = tt;
    }))
    (λ e. sound_bad pattern at text (WideInt at) (record { digits = digits; tail = tail; number = d; bad = (plain, ends, ltb-false value (2 ^ 63) e) }) refl)

duration_sound : (pattern : Bool) (at : ℕ) (digits tail text back : List ℕ) (unit : units.Unit) → Digits digits tail text → has_leading_zero digits ≡ false → tail ≡ unit_bytes unit ++ back → NotFirst is_word back → Sound pattern at text (duration at digits unit)
duration_sound pattern at digits tail text back unit d plain e ends =
    let value = digits_value 10 digits * unit_nanos unit in
    let s = digits ++ unit_bytes unit in
    choose (Sound pattern at text) (leb value DURATION_LIMIT) (Took (Literal (Dur (pos value))) (length digits + length (unit_bytes unit))) (Bad (WideDuration at))
    (λ f. sound_took pattern at text (Literal (Dur (pos value))) (length digits + length (unit_bytes unit)) (record {
      bytes = s;
      rest = back;
      joined = d.joined ∙ ap (λ (l : List ℕ). digits ++ l) e ∙ sym (append_assoc digits (unit_bytes unit) back);
      size = sym (length-append digits (unit_bytes unit));
      spelled = (value, refl, record { digits = digits; unit = unit; joined = refl; plain = (d.numeral, plain); value = refl }, test_le value DURATION_LIMIT f);
      ends = ends;
      allowed = tt;
    }))
    (λ f. sound_bad pattern at text (WideDuration at) (record {
      digits = digits;
      tail = tail;
      number = d;
      bad = (plain, record { unit = unit; back = back; joined = e; ends = ends; wide = test_lt value DURATION_LIMIT f });
    }) refl)

measured_sound : (pattern : Bool) (at : ℕ) (digits tail text : List ℕ) (o : Option units.Unit) → unit_at tail ≡ o → Digits digits tail text → has_leading_zero digits ≡ false → starts is_dot tail ≡ false → Sound pattern at text (measured at digits tail o)
measured_sound pattern at digits tail text None e d plain dot =
    let micro = no_micro_at tail e in
    choose (Sound pattern at text) (starts is_word tail) (Bad (BadNumber at)) (integer at digits)
    (λ w. sound_bad pattern at text (BadNumber at) (record {
      digits = digits;
      tail = tail;
      number = d;
      bad = (plain, record { follows = or_left (starts is_word tail) (starts_micro tail) w; no_end = λ unit back f. none_stands tail back unit e f });
    }) refl)
    (λ w. integer_sound pattern at digits tail text d plain (w, dot, micro))
measured_sound pattern at digits tail text (Some unit) e d plain dot =
    let u = unit_found tail unit e in
    let same : starts is_word (drop (length (unit_bytes unit)) tail) ≡ starts is_word u.back = ap (λ (l : List ℕ). starts is_word l) (drop_unit tail u.back unit u.joined) in
    choose (Sound pattern at text) (starts is_word (drop (length (unit_bytes unit)) tail)) (Bad (BadNumber at)) (duration at digits unit)
    (λ w. sound_bad pattern at text (BadNumber at) (record {
      digits = digits;
      tail = tail;
      number = d;
      bad = (
        plain,
        record {
          follows = ap (λ (l : List ℕ). starts is_word l || starts_micro l) u.joined ∙ unit_follows unit u.back;
          no_end = λ other rest f. other_stands tail u.back unit rest other e u.joined (sym same ∙ w) f;
        },
      );
    }) refl)
    (λ w. duration_sound pattern at digits tail text u.back unit d plain u.joined (sym same ∙ w))

numeral_sound : (pattern : Bool) (at : ℕ) (digits tail text : List ℕ) → Digits digits tail text → Sound pattern at text (numeral at digits tail)
numeral_sound pattern at digits tail text d =
    choose (Sound pattern at text) (has_leading_zero digits) (Bad (OctalLiteral at)) (cond (starts is_dot tail) (Bad (FloatLiteral at)) (measured at digits tail (unit_at tail)))
    (λ zero. sound_bad pattern at text (OctalLiteral at) (record { digits = digits; tail = tail; number = d; bad = zero }) refl)
    (λ plain. choose (Sound pattern at text) (starts is_dot tail) (Bad (FloatLiteral at)) (measured at digits tail (unit_at tail))
    (λ dot. sound_bad pattern at text (FloatLiteral at) (record { digits = digits; tail = tail; number = d; bad = (plain, dot) }) refl)
    (λ dot. measured_sound pattern at digits tail text (unit_at tail) refl d plain dot))

some_digits : (b : ℕ) (bs : List ℕ) → is_digit b ≡ true → 0 < length (take_while is_digit (b ∷ bs))
some_digits b bs h =
    let is = take_while-cons is_digit b bs ∙ cond_true (is_digit b) (b ∷ take_while is_digit bs) [] h in
    let k = ap (λ (l : List ℕ). length l) is in
    omega arith

pub number_sound : (pattern : Bool) (at b : ℕ) (bs : List ℕ) → is_digit b ≡ true → Sound pattern at (b ∷ bs) (number at (b ∷ bs))
number_sound pattern at b bs h =
    let text = b ∷ bs in
    let digits = take_while is_digit text in
    let r = run_of is_digit text in
    let P : List ℕ → Type 0 = λ l. Sound pattern at text (numeral at digits l) in
    subst P r.is_rest (numeral_sound pattern at digits r.rest text (record { joined = r.joined; numeral = (some_digits b bs h, digits_pass text); whole = r.stop }))
