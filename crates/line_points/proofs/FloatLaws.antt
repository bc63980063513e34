-- Words that spell a floating-point number or an unsigned integer, against the tests for them.
use Rattle.std.proofs.Common.{◌≡◌, ℕ, ◌+◌, Bool, true, false, not, cond, ◌&&◌, ◌||◌, Option, Some, None, List, [], ◌∷◌, ◌++◌, length, take, drop, refl, sym, ap, subst, ◌∙◌, append_assoc, eqb, ltb, arith}
use Rattle.std.specs.Prelude.{codes}
use Rattle.std.specs.Char.{is_ascii_digit}
use Rattle.std.specs.List.{list_all, position_or_len}
use Rattle.std.specs.Option.{option_map, option_map_or}
use Rattle.std.proofs.lemmas.Bool.{eqb-true}
use Rattle.std.proofs.lemmas.Bool.Decides.{nat_tests}
use Rattle.std.proofs.lemmas.List.Folds.{list_all-append}
use Rattle.kap_base.specs.Texts.{is_empty}
use Rattle.line_points.specs.Parts.{begins, is_separator}
use Rattle.line_points.specs.Numbers.{is_digits, is_minus, before_last_byte, true_words, false_words, is_true, is_false}
use Rattle.line_points.specs.Words.{is_sign, is_point, is_exponent_mark, without, cut, is_mantissa, is_float, is_unsigned}
use Rattle.line_points.specs.Grammar.{minus}
use Rattle.line_points.specs.FaultRows.{SpellsMantissa, whole_mantissa, pointed_mantissa, SpellsExponent, bare_exponent, signed_exponent, SpellsFloat, without_exponent, with_exponent, SpellsUnsigned, unsigned_word}
use Rattle.kap_base.proofs.TestLaws.{first_of, second_of, both, not_true}
use Rattle.line_points.proofs.NumberLaws.{before_last_byte-last}
use Rattle.line_points.proofs.PlaceLaws.{take_more}
use Rattle.line_points.proofs.ValueLaws.{last_byte, one_of}
use Rattle.line_points.proofs.BodyLaws.{less_zero, less_one, drop_two}

-- ---- tests on all bytes

every : (p q : ℕ → Bool) → ((b : ℕ) → p b ≡ true → q b ≡ true) → (xs : List ℕ) → list_all p xs ≡ true → list_all q xs ≡ true
every p q implied [] h = refl
every p q implied (x ∷ xs) h = both (q x) (list_all q xs) (implied x (first_of (p x) _ h)) (every p q implied xs (second_of (p x) _ h))

all_of_both : (p : ℕ → Bool) (xs ys : List ℕ) → list_all p xs ≡ true → list_all p ys ≡ true → list_all p (xs ++ ys) ≡ true
all_of_both p xs ys h k = list_all-append p xs ys ∙ both (list_all p xs) (list_all p ys) h k

begins_other : (p q : ℕ → Bool) → ((b : ℕ) → p b ≡ true → q b ≡ false) → (xs : List ℕ) → begins p xs ≡ true → begins q xs ≡ false
begins_other p q apart [] h = refl
begins_other p q apart (x ∷ xs) h = apart x h

begins_so : (p q : ℕ → Bool) → ((b : ℕ) → p b ≡ true → q b ≡ true) → (xs : List ℕ) → begins p xs ≡ true → begins q xs ≡ true
begins_so p q implied [] h = absurd cc
begins_so p q implied (x ∷ xs) h = implied x h

begins_more : (p : ℕ → Bool) (xs ys : List ℕ) → begins p xs ≡ true → begins p (xs ++ ys) ≡ true
begins_more p [] ys h = absurd cc
begins_more p (x ∷ xs) ys h = h

-- ---- cutting at a byte

cut_here : (p : ℕ → Bool) (b : ℕ) (bs : List ℕ) → p b ≡ true → cut p (b ∷ bs) ≡ Some ([], bs)
cut_here p b bs h = rw (h, less_zero (length bs)) refl

abbrev behind_byte : ℕ → List ℕ × List ℕ → List ℕ × List ℕ
behind_byte b q = (b ∷ q.0, q.1)

cut_on : (p : ℕ → Bool) (b : ℕ) (bs : List ℕ) → p b ≡ false → cut p (b ∷ bs) ≡ option_map (behind_byte b) (cut p bs)
cut_on p b bs h =
    let n = position_or_len p bs in
    rw (h, less_one n (length bs)) (elim (ltb n (length bs)) as (λ t. option_map (λ i. (take i (b ∷ bs), drop (i + 1) (b ∷ bs))) (cond t (Some (1 + n)) None) ≡ option_map (behind_byte b) (option_map (λ i. (take i bs, drop (i + 1) bs)) (cond t (Some n) None))) [
      | false ↦ refl
      | true ↦ rw (take_more n b bs, drop_two n b bs) refl
    ])

cut_none : (p : ℕ → Bool) (word : List ℕ) → list_all (λ b. not (p b)) word ≡ true → cut p word ≡ None
cut_none p [] h = refl
cut_none p (b ∷ word) h =
    cut_on p b word (not_true (p b) (first_of (not (p b)) _ h)) ∙ ap (option_map (behind_byte b)) (cut_none p word (second_of (not (p b)) _ h))

cut_there : (p : ℕ → Bool) (word : List ℕ) (b : ℕ) (rest : List ℕ) → list_all (λ x. not (p x)) word ≡ true → p b ≡ true → cut p (word ++ (b ∷ rest)) ≡ Some (word, rest)
cut_there p [] b rest h found = cut_here p b rest found
cut_there p (x ∷ word) b rest h found =
    cut_on p x (word ++ (b ∷ rest)) (not_true (p x) (first_of (not (p x)) _ h)) ∙ ap (option_map (behind_byte x)) (cut_there p word b rest (second_of (not (p x)) _ h) found)

record IsCut (p : ℕ → Bool) (bytes front rest : List ℕ) : Type 0 where
  byte : ℕ
  is : bytes ≡ front ++ (byte ∷ rest)
  found : p byte ≡ true

is_cut : (p : ℕ → Bool) (bytes front rest : List ℕ) → cut p bytes ≡ Some (front, rest) → IsCut p bytes front rest
is_cut p [] front rest e = absurd cc
is_cut p (b ∷ bs) front rest e =
    elim (p b) as (λ t. p b ≡ t → IsCut p (b ∷ bs) front rest) [
      | true ↦ λ t. at_first p b bs front rest t (sym (cut_here p b bs t) ∙ e)
      | false ↦ λ t. further p b bs front rest (cut p bs) (λ f r. is_cut p bs f r) refl (sym (cut_on p b bs t) ∙ e)
    ] refl
  where
    at_first : (p : ℕ → Bool) (b : ℕ) (bs front rest : List ℕ) → p b ≡ true → ◌≡◌ {A = Option (List ℕ × List ℕ)} (Some ([], bs)) (Some (front, rest)) → IsCut p (b ∷ bs) front rest
    at_first p b bs front rest t e =
        let same : ◌≡◌ {A = List ℕ × List ℕ} ([], bs) (front, rest) = cc in
        subst (λ (x : List ℕ × List ℕ). IsCut p (b ∷ bs) x.0 x.1) same (record { byte = b; is = refl; found = t })

    further : (p : ℕ → Bool) (b : ℕ) (bs front rest : List ℕ) (o : Option (List ℕ × List ℕ)) → ((f r : List ℕ) → cut p bs ≡ Some (f, r) → IsCut p bs f r) → cut p bs ≡ o → option_map (behind_byte b) o ≡ Some (front, rest) → IsCut p (b ∷ bs) front rest
    further p b bs front rest None more read e = absurd cc
    further p b bs front rest (Some (f, r)) more read e =
        let c = more f r read in
        let same : ◌≡◌ {A = List ℕ × List ℕ} (b ∷ f, r) (front, rest) = cc in
        subst (λ (x : List ℕ × List ℕ). IsCut p (b ∷ bs) x.0 x.1) same (record { byte = c.byte; is = ap (λ (x : List ℕ). b ∷ x) c.is; found = c.found })

-- ---- the bytes of a mantissa

abbrev pub is_mantissa_byte : ℕ → Bool
is_mantissa_byte b = is_ascii_digit b || is_point b

abbrev pub is_number_byte : ℕ → Bool
is_number_byte b = is_ascii_digit b || is_point b || is_minus b

digit_in : (b : ℕ) → is_ascii_digit b ≡ true → is_mantissa_byte b ≡ true
digit_in b h = grind (arith, nat_tests)

mantissa_bytes : {m : List ℕ} → SpellsMantissa m → list_all is_mantissa_byte m ≡ true
mantissa_bytes (whole_mantissa digits all) = every is_ascii_digit is_mantissa_byte digit_in digits (second_of _ _ all)
mantissa_bytes (pointed_mantissa whole fraction all_whole all) =
    all_of_both is_mantissa_byte whole (codes "." ++ fraction)
    (every is_ascii_digit is_mantissa_byte digit_in whole all_whole)
    (every is_ascii_digit is_mantissa_byte digit_in fraction (second_of _ _ all))

digits_first : (digits : List ℕ) → is_digits digits ≡ true → begins is_ascii_digit digits ≡ true
digits_first [] all = absurd cc
digits_first (d ∷ digits) all = first_of (is_ascii_digit d) _ all

mantissa_first : {m : List ℕ} → SpellsMantissa m → begins is_mantissa_byte m ≡ true
mantissa_first (whole_mantissa digits all) = begins_so is_ascii_digit is_mantissa_byte digit_in digits (digits_first digits all)
mantissa_first (pointed_mantissa [] fraction all_whole all) = refl
mantissa_first (pointed_mantissa (d ∷ whole) fraction all_whole all) = digit_in d (first_of (is_ascii_digit d) _ all_whole)

no_mark : {m : List ℕ} → SpellsMantissa m → list_all (λ b. not (is_exponent_mark b)) m ≡ true
no_mark {m} spells = every is_mantissa_byte (λ b. not (is_exponent_mark b)) (λ b h. grind (arith, nat_tests)) m (mantissa_bytes spells)

no_point : (digits : List ℕ) → list_all is_ascii_digit digits ≡ true → list_all (λ b. not (is_point b)) digits ≡ true
no_point digits all = every is_ascii_digit (λ b. not (is_point b)) (λ b h. grind (arith, nat_tests)) digits all

-- ---- a spelling passes the test

digits_or_none : (whole : List ℕ) → list_all is_ascii_digit whole ≡ true → (is_empty whole || is_digits whole) ≡ true
digits_or_none [] all = refl
digits_or_none (d ∷ whole) all = all

mantissa_passes : {m : List ℕ} → SpellsMantissa m → is_mantissa m ≡ true
mantissa_passes (whole_mantissa digits all) = rw (cut_none is_point digits (no_point digits (second_of (not (is_empty digits)) _ all))) all
mantissa_passes (pointed_mantissa whole fraction all_whole all) =
    rw (cut_there is_point whole 46 fraction (no_point whole all_whole) refl, digits_or_none whole all_whole) all

no_minus : (negative : Bool) (rest : List ℕ) → begins is_mantissa_byte rest ≡ true → without is_minus (minus negative ++ rest) ≡ rest
no_minus true rest first = refl
no_minus false rest first = rw (begins_other is_mantissa_byte is_minus (λ b h. grind (arith, nat_tests)) rest first) refl

no_sign : (digits : List ℕ) → is_digits digits ≡ true → without is_sign digits ≡ digits
no_sign digits all = rw (begins_other is_ascii_digit is_sign (λ b h. grind (arith, nat_tests)) digits (digits_first digits all)) refl

exponent_passes : {m exponent : List ℕ} → SpellsMantissa m → SpellsExponent exponent → option_map_or (λ p. is_mantissa p.0 && is_digits (without is_sign p.1)) (cut is_exponent_mark (m ++ exponent)) (is_mantissa (m ++ exponent)) ≡ true
exponent_passes {m} spells (bare_exponent mark digits is_mark all) =
    rw (cut_there is_exponent_mark m mark digits (no_mark spells) is_mark, mantissa_passes spells, no_sign digits all) all
exponent_passes {m} spells (signed_exponent mark sign digits is_mark signs all) =
    rw (cut_there is_exponent_mark m mark (sign ∷ digits) (no_mark spells) is_mark, mantissa_passes spells, signs) all

pub float_passes : {word : List ℕ} → SpellsFloat word → is_float word ≡ true
float_passes (without_exponent negative m spells) =
    rw (no_minus negative m (mantissa_first spells), cut_none is_exponent_mark m (no_mark spells)) (mantissa_passes spells)
float_passes (with_exponent negative m exponent spells exponent_spells) =
    rw (no_minus negative (m ++ exponent) (begins_more is_mantissa_byte m exponent (mantissa_first spells))) (exponent_passes spells exponent_spells)

-- ---- what passes the test is a spelling

record MinusTaken (word : List ℕ) : Type 0 where
  negative : Bool
  is : word ≡ minus negative ++ without is_minus word

minus_taken : (word : List ℕ) → MinusTaken word
minus_taken [] = record { negative = false; is = refl }
minus_taken (b ∷ word) =
    elim (is_minus b) as (λ t. is_minus b ≡ t → MinusTaken (b ∷ word)) [
      | false ↦ λ t. record { negative = false; is = rw t refl }
      | true ↦ λ t. record { negative = true; is = rw t (let same : b ≡ 45 = eqb-true _ _ t in ap (λ (x : ℕ). x ∷ word) same) }
    ] refl

whole_digits : (whole : List ℕ) → (is_empty whole || is_digits whole) ≡ true → list_all is_ascii_digit whole ≡ true
whole_digits [] h = refl
whole_digits (d ∷ whole) h = h

mantissa_spelled : (m : List ℕ) → is_mantissa m ≡ true → SpellsMantissa m
mantissa_spelled m h = by_cut m (cut is_point m) refl h
  where
    by_cut : (m : List ℕ) (o : Option (List ℕ × List ℕ)) → cut is_point m ≡ o → option_map_or (λ p. (is_empty p.0 || is_digits p.0) && is_digits p.1) o (is_digits m) ≡ true → SpellsMantissa m
    by_cut m None e h = whole_mantissa m h
    by_cut m (Some (whole, fraction)) e h =
        let c = is_cut is_point m whole fraction e in
        let same : c.byte ≡ 46 = eqb-true _ _ c.found in
        subst SpellsMantissa (sym (c.is ∙ ap (λ (x : ℕ). whole ++ (x ∷ fraction)) same))
        (pointed_mantissa whole fraction (whole_digits whole (first_of (is_empty whole || is_digits whole) _ h)) (second_of (is_empty whole || is_digits whole) _ h))

exponent_spelled : (mark : ℕ) (rest : List ℕ) → is_exponent_mark mark ≡ true → is_digits (without is_sign rest) ≡ true → SpellsExponent (mark ∷ rest)
exponent_spelled mark [] found h = absurd cc
exponent_spelled mark (b ∷ rest) found h =
    elim (is_sign b) as (λ t. is_sign b ≡ t → is_digits (cond t rest (b ∷ rest)) ≡ true → SpellsExponent (mark ∷ b ∷ rest)) [
      | true ↦ λ t h. signed_exponent mark b rest found t h
      | false ↦ λ t h. bare_exponent mark (b ∷ rest) found h
    ] refl h

pub float_spelled : (word : List ℕ) → is_float word ≡ true → SpellsFloat word
float_spelled word h = by_cut word (without is_minus word) (minus_taken word).negative (minus_taken word).is (cut is_exponent_mark (without is_minus word)) refl h
  where
    by_cut : (word number : List ℕ) (negative : Bool) → word ≡ minus negative ++ number → (o : Option (List ℕ × List ℕ)) → cut is_exponent_mark number ≡ o → option_map_or (λ p. is_mantissa p.0 && is_digits (without is_sign p.1)) o (is_mantissa number) ≡ true → SpellsFloat word
    by_cut word number negative is None e h = subst SpellsFloat (sym is) (without_exponent negative number (mantissa_spelled number h))
    by_cut word number negative is (Some (m, rest)) e h =
        let c = is_cut is_exponent_mark number m rest e in
        subst SpellsFloat (sym (is ∙ ap (λ (x : List ℕ). minus negative ++ x) c.is))
        (with_exponent negative m (c.byte ∷ rest) (mantissa_spelled m (first_of (is_mantissa m) _ h)) (exponent_spelled c.byte rest c.found (second_of (is_mantissa m) _ h)))

pub unsigned_spelled : (word : List ℕ) → is_unsigned word ≡ true → SpellsUnsigned word
unsigned_spelled word h = by_front word (before_last_byte 117 word) refl h
  where
    by_front : (word : List ℕ) (o : Option (List ℕ)) → before_last_byte 117 word ≡ o → option_map_or is_digits o false ≡ true → SpellsUnsigned word
    by_front word None e h = absurd cc
    by_front word (Some digits) e h = subst SpellsUnsigned (sym (last_byte 117 word digits e)) (unsigned_word digits h)

-- ---- no other word is spelled so

-- the last byte is a digit
record EndsInDigit (word : List ℕ) : Type 0 where
  front : List ℕ
  digit : ℕ
  is : word ≡ front ++ digit ∷ []
  digits : is_ascii_digit digit ≡ true

behind_front : (xs ys : List ℕ) → EndsInDigit ys → EndsInDigit (xs ++ ys)
behind_front xs ys e = record { front = xs ++ e.front; digit = e.digit; is = ap (λ (z : List ℕ). xs ++ z) e.is ∙ sym (append_assoc xs e.front (e.digit ∷ [])); digits = e.digits }

digits_end : (digits : List ℕ) → is_digits digits ≡ true → EndsInDigit digits
digits_end [] all = absurd cc
digits_end (d ∷ []) all = record { front = []; digit = d; is = refl; digits = first_of (is_ascii_digit d) _ all }
digits_end (d ∷ c ∷ digits) all = behind_front (d ∷ []) (c ∷ digits) (digits_end (c ∷ digits) (second_of (is_ascii_digit d) _ all))

mantissa_end : {m : List ℕ} → SpellsMantissa m → EndsInDigit m
mantissa_end (whole_mantissa digits all) = digits_end digits all
mantissa_end (pointed_mantissa whole fraction all_whole all) = behind_front whole (codes "." ++ fraction) (behind_front (codes ".") fraction (digits_end fraction all))

exponent_end : {exponent : List ℕ} → SpellsExponent exponent → EndsInDigit exponent
exponent_end (bare_exponent mark digits is_mark all) = behind_front (mark ∷ []) digits (digits_end digits all)
exponent_end (signed_exponent mark sign digits is_mark signs all) = behind_front (mark ∷ sign ∷ []) digits (digits_end digits all)

float_end : {word : List ℕ} → SpellsFloat word → EndsInDigit word
float_end (without_exponent negative m spells) = behind_front (minus negative) m (mantissa_end spells)
float_end (with_exponent negative m exponent spells exponent_spells) = behind_front (minus negative) (m ++ exponent) (behind_front m exponent (exponent_end exponent_spells))

no_last : (b : ℕ) (word : List ℕ) → is_ascii_digit b ≡ false → EndsInDigit word → before_last_byte b word ≡ None
no_last b word other e =
    let apart : eqb e.digit b ≡ false = differs b e.digit e.digits other in
    ap (before_last_byte b) e.is ∙ before_last_byte-last b e.front e.digit ∙ rw apart refl
  where
    differs : (b d : ℕ) → is_ascii_digit d ≡ true → is_ascii_digit b ≡ false → eqb d b ≡ false
    differs b d h k = elim (eqb d b) as (λ t. eqb d b ≡ t → t ≡ false) [ false ↦ λ _. refl | true ↦ λ t. let same : d ≡ b = eqb-true _ _ t in let also : is_ascii_digit b ≡ true = ap is_ascii_digit (sym same) ∙ h in absurd cc ] refl

pub float_no_integer : {word : List ℕ} → SpellsFloat word → before_last_byte 105 word ≡ None
float_no_integer {word} spells = no_last 105 word refl (float_end spells)

number_first : (negative : Bool) (rest : List ℕ) → begins is_mantissa_byte rest ≡ true → begins is_number_byte (minus negative ++ rest) ≡ true
number_first true rest first = refl
number_first false rest first = begins_so is_mantissa_byte is_number_byte (λ b h. grind (arith, nat_tests)) rest first

pub float_first : {word : List ℕ} → SpellsFloat word → begins is_number_byte word ≡ true
float_first (without_exponent negative m spells) = number_first negative m (mantissa_first spells)
float_first (with_exponent negative m exponent spells exponent_spells) = number_first negative (m ++ exponent) (begins_more is_mantissa_byte m exponent (mantissa_first spells))

pub unsigned_first : (digits more : List ℕ) → is_digits digits ≡ true → begins is_number_byte (digits ++ more) ≡ true
unsigned_first digits more all = begins_more is_number_byte digits more (begins_so is_ascii_digit is_number_byte (λ b h. grind (arith, nat_tests)) digits (digits_first digits all))

-- no word for true or false begins as a number
pub no_true : (word : List ℕ) → begins is_number_byte word ≡ true → is_true word ≡ false
no_true word first = elim (is_true word) as (λ t. is_true word ≡ t → t ≡ false) [
  | false ↦ λ _. refl
  | true ↦ λ t. let none : begins is_number_byte word ≡ false = one_of (λ w. begins is_number_byte w ≡ false) word true_words t (refl, (refl, (refl, (refl, (refl, tt))))) in absurd cc
] refl

pub no_false : (word : List ℕ) → begins is_number_byte word ≡ true → is_false word ≡ false
no_false word first = elim (is_false word) as (λ t. is_false word ≡ t → t ≡ false) [
  | false ↦ λ _. refl
  | true ↦ λ t. let none : begins is_number_byte word ≡ false = one_of (λ w. begins is_number_byte w ≡ false) word false_words t (refl, (refl, (refl, (refl, (refl, tt))))) in absurd cc
] refl

pub unsigned_no_float : (digits : List ℕ) → is_float (digits ++ codes "u") ≡ false
unsigned_no_float digits = elim (is_float (digits ++ codes "u")) as (λ t. is_float (digits ++ codes "u") ≡ t → t ≡ false) [
  | false ↦ λ _. refl
  | true ↦ λ t.
      let none = no_last 117 (digits ++ codes "u") refl (float_end (float_spelled (digits ++ codes "u") t)) in
      let some = before_last_byte-last 117 digits 117 in
      absurd cc
] refl

-- ---- no separator stands in such a word

mantissa_whole : {m : List ℕ} → SpellsMantissa m → list_all (λ b. not (is_separator b)) m ≡ true
mantissa_whole {m} spells = every is_mantissa_byte (λ b. not (is_separator b)) (λ b h. grind (arith, nat_tests)) m (mantissa_bytes spells)

pub digits_whole : (digits : List ℕ) → is_digits digits ≡ true → list_all (λ b. not (is_separator b)) digits ≡ true
digits_whole digits all = every is_ascii_digit (λ b. not (is_separator b)) (λ b h. grind (arith, nat_tests)) digits (second_of _ _ all)

mark_whole : (b : ℕ) → is_exponent_mark b ≡ true → not (is_separator b) ≡ true
mark_whole b h = grind (arith, nat_tests)

sign_whole : (b : ℕ) → is_sign b ≡ true → not (is_separator b) ≡ true
sign_whole b h = grind (arith, nat_tests)

exponent_whole : {exponent : List ℕ} → SpellsExponent exponent → list_all (λ b. not (is_separator b)) exponent ≡ true
exponent_whole (bare_exponent mark digits is_mark all) = both _ _ (mark_whole mark is_mark) (digits_whole digits all)
exponent_whole (signed_exponent mark sign digits is_mark signs all) = both _ _ (mark_whole mark is_mark) (both _ _ (sign_whole sign signs) (digits_whole digits all))

minus_whole : (negative : Bool) → list_all (λ b. not (is_separator b)) (minus negative) ≡ true
minus_whole true = refl
minus_whole false = refl

pub float_whole : {word : List ℕ} → SpellsFloat word → list_all (λ b. not (is_separator b)) word ≡ true
float_whole (without_exponent negative m spells) = all_of_both (λ b. not (is_separator b)) (minus negative) m (minus_whole negative) (mantissa_whole spells)
float_whole (with_exponent negative m exponent spells exponent_spells) =
    all_of_both (λ b. not (is_separator b)) (minus negative) (m ++ exponent) (minus_whole negative)
    (all_of_both (λ b. not (is_separator b)) m exponent (mantissa_whole spells) (exponent_whole exponent_spells))

pub unsigned_whole : (digits : List ℕ) → is_digits digits ≡ true → list_all (λ b. not (is_separator b)) (digits ++ codes "u") ≡ true
unsigned_whole digits all = all_of_both (λ b. not (is_separator b)) digits (codes "u") (digits_whole digits all) refl
