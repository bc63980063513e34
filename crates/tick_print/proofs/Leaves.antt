-- A literal that some bytes spell is spelled by its canonical text.
use Rattle.std.proofs.Common.{◌≡◌, ◌⊎◌, inl, inr, ⊎_elim, ℕ, ℤ, pos, negsuc, zero, suc, ◌*◌, ◌/◌, ◌%◌, ◌<◌, ◌≤◌, ◌^◌, Bool, true, false, cond, eqb, nat_eq, List, [], ◌∷◌, ◌++◌, get_or, refl, sym, ap, ◌∙◌, subst, arith, codes, Some}
use Rattle.std.proofs.Math.Nat.{mul_comm, mul_assoc, mul-mod_left, div-add-mod, div-le_self}
use Rattle.std.proofs.lemmas.Bool.Decides.{nat_tests}
use Rattle.std.proofs.lemmas.Fmt.{decimal_is_IsNumeral, first_decimal}
use Rattle.std.specs.Fmt.{decimal, digits}
use Rattle.std.specs.Str.Parse.{digits_value}
use Rattle.kap_base.specs.declared.expr.Lit.{Lit}
use Rattle.kap_base.specs.declared.expr.Lit.TheVariants.{Int, Dur, Str, Bool as Truth, Regex}
use Rattle.kap_base.specs.Texts.{backslash, ends_with}
use Rattle.tick_lexer.specs.declared.limits.TheConstants.{DURATION_LIMIT}
use Rattle.tick_lexer.specs.declared.token.Kind.{Kind}
use Rattle.tick_lexer.specs.declared.token.Kind.TheVariants.{Literal}
use Rattle.tick_lexer.specs.declared.unit.Unit as units
use Rattle.tick_lexer.specs.declared.unit.Unit.TheVariants.{Week, Day, Hour, Minute, Second, Milli, Micro, MicroSign}
use Rattle.tick_lexer.specs.Spelling.{IsPlainNumeral, IsDuration, has_leading_zero, unit_nanos, EndsPlain, Quoted, Tripled, Spelled}
use Rattle.tick_parser.specs.Grammar.{minus, IsMinus}
use Rattle.tick_print.specs.Print.{in_quotes, string_text, divides, largest_unit, unit_of, counted, lit_text}

no_zero : (s : List ℕ) → 48 < get_or s 0 0 → has_leading_zero s ≡ false
no_zero [] h = refl
no_zero (b ∷ []) h = refl
no_zero (b ∷ c ∷ bs) h = grind (arith, nat_tests)

zero_digit : has_leading_zero (decimal 0) ≡ false
unfolding digits
zero_digit = refl

-- a number's digits have no leading zero
plain_decimal : (n : ℕ) → n < 2 ^ 64 → IsPlainNumeral (decimal n)
plain_decimal zero h = let number = decimal_is_IsNumeral 0 h in (number.0, zero_digit)
plain_decimal (suc n) h = let number = decimal_is_IsNumeral (suc n) h in (number.0, no_zero (decimal (suc n)) (first_decimal (suc n) (omega arith) h))

int_spelled : (n : ℕ) → n < 2 ^ 63 → Spelled (Literal (Int (pos n))) (decimal n)
int_spelled n h =
    let number = decimal_is_IsNumeral n (omega arith) in
    (plain_decimal n (omega arith), ap pos (sym number.1), subst (λ (k : ℕ). k < 2 ^ 63) (sym number.1) h)

-- each unit is whole microseconds
thousands : (unit : units.Unit) → (k : ℕ) × (unit_nanos unit ≡ k * 1000)
thousands Week = (604_800_000_000, refl)
thousands Day = (86_400_000_000, refl)
thousands Hour = (3_600_000_000, refl)
thousands Minute = (60_000_000, refl)
thousands Second = (1_000_000, refl)
thousands Milli = (1_000, refl)
thousands Micro = (1, refl)
thousands MicroSign = (1, refl)

whole_micros : (nanos : ℕ) (s : List ℕ) → IsDuration nanos s → nanos % 1000 ≡ 0
whole_micros nanos s h =
    let u = thousands h.unit in
    let v = digits_value 10 h.digits in
    ap (λ (n : ℕ). n % 1000) (h.value ∙ ap (λ (m : ℕ). v * m) u.1 ∙ sym (mul_assoc v u.0 1000)) ∙ mul-mod_left (v * u.0) 1000

is_zero : (n : ℕ) → eqb n 0 ≡ true → n ≡ 0
is_zero n h = grind (arith, nat_tests)

-- the first unit where it divides, and else the other
picks : (n : ℕ) (unit other : units.Unit) → n % unit_nanos other ≡ 0 → n % unit_nanos (cond (divides unit n) unit other) ≡ 0
picks n unit other h =
    let go : (t : Bool) → divides unit n ≡ t → n % unit_nanos (cond t unit other) ≡ 0 =
    elim [ true ↦ λ e. is_zero (n % unit_nanos unit) e | false ↦ λ e. h ] in
    go (divides unit n) refl

unit_divides : (n : ℕ) → n % 1000 ≡ 0 → n % unit_nanos (unit_of n) ≡ 0
unit_divides n h =
    let go : (t : Bool) → eqb n 0 ≡ t → n % unit_nanos (cond t Second (largest_unit n)) ≡ 0 =
    elim [
      | true ↦ λ e. ap (λ (k : ℕ). k % 1_000_000_000) (is_zero n e)
      | false ↦ λ e. picks n Week _ (picks n Day _ (picks n Hour _ (picks n Minute _ (picks n Second _ (picks n Milli Micro h)))))
    ] in
    go (eqb n 0) refl

whole : (n m : ℕ) → n % m ≡ 0 → n ≡ n / m * m
whole n m h =
    let parts = div-add-mod n m in
    let turned = mul_comm (n / m) m in
    omega arith

counted_spelled : (n : ℕ) → n % 1000 ≡ 0 → n ≤ DURATION_LIMIT → IsDuration n (counted n (unit_of n))
counted_spelled n h small =
    let unit = unit_of n in
    let size = unit_nanos unit in
    let k = n / size in
    let less = div-le_self n size in
    let number = decimal_is_IsNumeral k (omega arith) in
    record {
      digits = decimal k;
      unit = unit;
      joined = refl;
      plain = plain_decimal k (omega arith);
      value = whole n size (unit_divides n h) ∙ sym (ap (λ (v : ℕ). v * size) number.1);
    }

dur_spelled : (nanos : ℕ) (s : List ℕ) → IsDuration nanos s → nanos ≤ DURATION_LIMIT → Spelled (Literal (Dur (pos nanos))) (counted nanos (unit_of nanos))
dur_spelled nanos s h small = (nanos, refl, counted_spelled nanos (whole_micros nanos s h) small, small)

same_byte : (b k : ℕ) → nat_eq b k ≡ true → b ≡ k
same_byte b k h = grind (arith, nat_tests)

other_byte : (b k : ℕ) → nat_eq b k ≡ false → b ≡ k → ⊥
other_byte b k h e = grind (arith, nat_tests)

never_slash : (text : List ℕ) → EndsPlain text → ends_with 92 text ≡ true → ⊥
never_slash [] h e = absurd (cc)
never_slash (b ∷ []) h e = h (same_byte b 92 e)
never_slash (b ∷ c ∷ text) h e = never_slash (c ∷ text) h e

ends_plain : (text : List ℕ) → ends_with 92 text ≡ false → EndsPlain text
ends_plain [] e = tt
ends_plain (b ∷ []) e = other_byte b 92 e
ends_plain (b ∷ c ∷ text) e = ends_plain (c ∷ text) e

str_spelled : (text s : List ℕ) → Quoted 39 text s ⊎ Tripled text s → Spelled (Literal (Str text)) (string_text text)
str_spelled text s h =
    let go : (t : Bool) → ends_with backslash text ≡ t → Spelled (Literal (Str text)) (cond t (codes "'''" ++ (text ++ codes "'''")) (in_quotes 39 text)) =
    elim [
      | true ↦ λ e. ⊎_elim (λ (q : Quoted 39 text s). absurd (never_slash text q.1 e)) (λ (q : Tripled text s). inr (refl, q.1)) h
      | false ↦ λ e. inl (refl, ends_plain text e)
    ] in
    go (ends_with backslash text) refl

at_int : (n : ℤ) (k : ℕ) → n ≡ pos k → k < 2 ^ 63 → Spelled (Literal (Int n)) (lit_text (Int n))
at_int n k e h = subst (λ (z : ℤ). Spelled (Literal (Int z)) (lit_text (Int z))) (sym e) (int_spelled k h)

at_dur : (n : ℤ) (k : ℕ) (s : List ℕ) → n ≡ pos k → IsDuration k s → k ≤ DURATION_LIMIT → Spelled (Literal (Dur n)) (lit_text (Dur n))
at_dur n k s e h small = subst (λ (z : ℤ). Spelled (Literal (Dur z)) (lit_text (Dur z))) (sym e) (dur_spelled k s h small)

-- what some bytes spell its canonical text spells
pub lit_spelled : (lit : Lit) (s : List ℕ) → Spelled (Literal lit) s → Spelled (Literal lit) (lit_text lit)
lit_spelled (Int n) s h = at_int n (digits_value 10 s) h.1 h.2
lit_spelled (Dur n) s h = at_dur n h.0 s h.1 h.2 h.3
lit_spelled (Str text) s h = str_spelled text s h
lit_spelled (Truth b) s h = refl
lit_spelled (Regex text) s h = let quoted = h.0 in ((refl, quoted.1), h.1)

-- the text is a minus before the text of a number or a duration, which is spelled
pub record IsNegative (lit : Lit) : Type 0 where
  pub plain : Lit
  pub is_minus : minus plain ≡ Some lit
  pub spelled : Spelled (Literal plain) (lit_text plain)
  pub text : lit_text lit ≡ 45 ∷ lit_text plain

-- the text of a literal that is a value is spelled, as one token or with a minus
abbrev pub IsValue : Lit → Type 0
IsValue lit = Spelled (Literal lit) (lit_text lit) ⊎ IsNegative lit

negative : (plain other lit : Lit) → minus plain ≡ Some other → minus plain ≡ Some lit → Spelled (Literal plain) (lit_text plain) → lit_text other ≡ 45 ∷ lit_text plain → IsValue lit
negative plain other lit e f h t =
    let same : other ≡ lit = (cc) in
    subst (λ (x : Lit). IsValue x) same (inr (record { plain = plain; is_minus = e; spelled = h; text = t }))

unsigned : (plain other lit : Lit) → minus plain ≡ Some other → minus plain ≡ Some lit → Spelled (Literal other) (lit_text other) → IsValue lit
unsigned plain other lit e f h =
    let same : other ≡ lit = (cc) in
    subst (λ (x : Lit). IsValue x) same (inl h)

minus_value : (plain lit : Lit) (s : List ℕ) → minus plain ≡ Some lit → Spelled (Literal plain) s → IsValue lit
minus_value (Int (pos zero)) lit s e h = unsigned (Int (pos zero)) (Int (pos zero)) lit refl e (lit_spelled (Int (pos zero)) s h)
minus_value (Int (pos (suc n))) lit s e h = negative (Int (pos (suc n))) (Int (negsuc n)) lit refl e (lit_spelled (Int (pos (suc n))) s h) refl
minus_value (Int (negsuc n)) lit s e h = absurd (cc)
minus_value (Dur (pos zero)) lit s e h = unsigned (Dur (pos zero)) (Dur (pos zero)) lit refl e (lit_spelled (Dur (pos zero)) s h)
minus_value (Dur (pos (suc n))) lit s e h = negative (Dur (pos (suc n))) (Dur (negsuc n)) lit refl e (lit_spelled (Dur (pos (suc n))) s h) refl
minus_value (Dur (negsuc n)) lit s e h = absurd (cc)
minus_value (Str text) lit s e h = absurd (cc)
minus_value (Truth b) lit s e h = absurd (cc)
minus_value (Regex text) lit s e h = absurd (cc)

-- the literal behind a minus, with the minus
pub behind_minus : (kind : Kind) (lit : Lit) (s : List ℕ) → IsMinus kind lit → Spelled kind s → IsValue lit
behind_minus (Literal plain) lit s i h = minus_value plain lit s i h
behind_minus _ lit s i h = elim i [ ]
