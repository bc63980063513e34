-- What is printed is a spelling of the point, and clean.
use Rattle.std.proofs.Common.{◌≡◌, ℕ, suc, ◌*◌, ◌^◌, ◌<◌, ◌≤◌, Bool, true, false, not, cond, ◌&&◌, ◌||◌, List, [], ◌∷◌, ◌++◌, length, take, refl, sym, ap, subst, ◌∙◌, append_assoc, eqb, arith, rules}
use Rattle.std.specs.Prelude.{ℤ, pos, negsuc, codes}
use Rattle.std.specs.Char.{is_ascii_digit}
use Rattle.std.specs.List.{list_all, list_any, flat_map}
use Rattle.std.specs.Fmt.{decimal, signed_decimal}
use Rattle.std.specs.Str.Parse.{digits_value}
use Rattle.std.proofs.lemmas.Bool.{eqb-true, ltb-true, leb-true, le-leb}
use Rattle.std.proofs.lemmas.Bool.Decides.{nat_tests}
use Rattle.std.proofs.lemmas.Fmt.{digits_decimal, digits_value-decimal, decimal_nonempty}
use Rattle.std.proofs.lemmas.Grind.{common_steps}
use Rattle.std.proofs.lemmas.List.{append-nil}
use Rattle.std.proofs.lemmas.List.Concat.{flat_map-cons}
use Rattle.std.proofs.lemmas.Str.Parse.{IsNumeralModel, IsDigitsTest, numerals_by_value}
use Rattle.kap_base.specs.Texts.{backslash, is_empty, ends_with, is_name, is_line}
use Rattle.kap_base.specs.Points.{is_value, is_time}
use Rattle.kap_base.specs.declared.value.Value.{Value}
use Rattle.kap_base.specs.declared.value.Value.TheVariants as values
use Rattle.kap_base.specs.declared.limits.TheConstants.{TIME_LIMIT}
use Rattle.line_points.specs.declared.part.Part.{Part}
use Rattle.line_points.specs.declared.part.Part.TheVariants as parts
use Rattle.line_points.specs.declared.mode.Mode.TheVariants.{Recording}
use Rattle.line_points.specs.Parts.{comma, equals, space, escapes, stops, begins}
use Rattle.line_points.specs.Numbers.{is_digits, with_sign, fits}
use Rattle.line_points.specs.Line.{Tag, Field}
use Rattle.line_points.specs.Grammar.{Spells, no_bytes, plain, behind_backslash, minus, SpellsValue, integer_word, true_word, false_word, quoted_text, SpellsTags, no_tags, more_tags, SpellsFields, one_field, more_fields, SpellsTime, some_time}
use Rattle.line_points.specs.Print.{byte_text, part_text, value_text, tag_text, field_text, fields_text}
use Rattle.kap_base.proofs.TestLaws.{first_of, second_of, first_false, second_false, both, not_true, not_false}
use Rattle.line_points.proofs.SpellLaws.{stops-escape}

-- a text without a byte that the part escapes
pub escaped-none : (part : Part) (text : List ℕ) → list_any (escapes part) text ≡ false → part_text part text ≡ text
escaped-none part [] none = refl
escaped-none part (b ∷ text) none =
    let plain : escapes part b ≡ false = first_false (escapes part b) (list_any (escapes part) text) none in
    flat_map-cons (byte_text part) b text
    ∙ rw plain (ap (λ (x : List ℕ). b ∷ x) (escaped-none part text (second_false (escapes part b) (list_any (escapes part) text) none)))

-- ---- texts

-- a text that the part can spell: where a backslash can't stand behind another, it doesn't end in one
abbrev pub can_spell : Part → List ℕ → Bool
can_spell part text = escapes part backslash || not (ends_with backslash text)

rest_named : (part : Part) (b : ℕ) (text : List ℕ) → can_spell part (b ∷ text) ≡ true → can_spell part text ≡ true
rest_named part b [] named = elim (escapes part backslash) as (λ e. (e || true) ≡ true) [ true ↦ refl | false ↦ refl ]
rest_named part b (c ∷ text) named = named

no_stop : (part : Part) (b : ℕ) → escapes part b ≡ false → stops part b ≡ false
no_stop part b never = elim (stops part b) as (λ s. stops part b ≡ s → s ≡ false) [ true ↦ λ s. absurd (let can = stops-escape part b s in cc) | false ↦ λ _. refl ] refl

begins-escaped : (part : Part) (c : ℕ) (text : List ℕ) → escapes part backslash ≡ false → begins (λ x. not (escapes part x)) (part_text part (c ∷ text)) ≡ true
begins-escaped part c text never =
    ap (begins (λ x. not (escapes part x))) (flat_map-cons (byte_text part) c text)
    ∙ elim (escapes part c) as (λ e. escapes part c ≡ e → begins (λ x. not (escapes part x)) (cond e (backslash ∷ c ∷ []) (c ∷ []) ++ part_text part text) ≡ true) [
      | true ↦ λ _. not_false (escapes part backslash) never
      | false ↦ λ e. not_false (escapes part c) e
    ] refl

lone : (part : Part) (b : ℕ) (text : List ℕ) → escapes part b ≡ false → can_spell part (b ∷ text) ≡ true → (not (eqb b backslash) || begins (λ x. not (escapes part x)) (part_text part text)) ≡ true
lone part b text alone named =
    elim (eqb b backslash) as (λ t. eqb b backslash ≡ t → (not t || begins (λ x. not (escapes part x)) (part_text part text)) ≡ true) [
      | false ↦ λ _. refl
      | true ↦ λ t. followed part b text t (subst (λ (x : ℕ). escapes part x ≡ false) (eqb-true _ _ t) alone) named
    ] refl
  where
    followed : (part : Part) (b : ℕ) (text : List ℕ) → eqb b backslash ≡ true → escapes part backslash ≡ false → can_spell part (b ∷ text) ≡ true → begins (λ x. not (escapes part x)) (part_text part text) ≡ true
    followed part b [] t never named = absurd (grind (arith, nat_tests))
    followed part b (c ∷ text) t never named = begins-escaped part c text never

pub escaped_spells : (part : Part) (text : List ℕ) → can_spell part text ≡ true → Spells part text (part_text part text)
escaped_spells part [] named = no_bytes
escaped_spells part (b ∷ text) named =
    let more = escaped_spells part text (rest_named part b text named) in
    subst (Spells part (b ∷ text)) (sym (flat_map-cons (byte_text part) b text))
    (elim (escapes part b) as (λ e. escapes part b ≡ e → Spells part (b ∷ text) (cond e (backslash ∷ b ∷ []) (b ∷ []) ++ part_text part text)) [
      | true ↦ λ e. behind_backslash b text (part_text part text) e more
      | false ↦ λ e. plain b text (part_text part text) (both (not (stops part b)) _ (not_false (stops part b) (no_stop part b e)) (lone part b text e named)) more
    ] refl)

pub name_some : (text : List ℕ) → is_name text ≡ true → is_empty text ≡ false
name_some text named = not_true (is_empty text) (first_of (not (is_empty text)) (not (ends_with backslash text)) (first_of _ (is_line text) named))

pub name_spells : (part : Part) (text : List ℕ) → escapes part backslash ≡ false → is_name text ≡ true → Spells part text (part_text part text)
name_spells part text never named =
    let last : not (ends_with backslash text) ≡ true = second_of (not (is_empty text)) _ (first_of _ (is_line text) named) in
    escaped_spells part text (rw (never, last) refl)

-- ---- numbers

digits_test : IsDigitsTest (λ ds. list_all is_ascii_digit ds ≡ true)
digits_test = search rules

pub own : IsNumeralModel (λ ds. list_all is_ascii_digit ds ≡ true) (digits_value 10)
own = numerals_by_value (λ ds. list_all is_ascii_digit ds ≡ true) digits_test

some_digits : (ds : List ℕ) → 0 < length ds → list_all is_ascii_digit ds ≡ true → is_digits ds ≡ true
some_digits [] some all = absurd (omega arith)
some_digits (d ∷ ds) some all = all

pub decimal_digits : (n : ℕ) → n < 2 ^ 64 → is_digits (decimal n) ≡ true
decimal_digits n lt = some_digits (decimal n) (decimal_nonempty n lt) (digits_decimal own n lt)

-- ---- values

int_spells : (negative : Bool) (n : ℕ) → n < 2 ^ 64 → fits (negative, n) ≡ true → SpellsValue (values.Int (with_sign (negative, n))) (minus negative ++ (decimal n ++ codes "i"))
int_spells negative n lt fit =
    let is = digits_value-decimal own n lt in
    subst (λ (x : ℕ). SpellsValue (values.Int (with_sign (negative, x))) (minus negative ++ (decimal n ++ codes "i"))) is
    (integer_word negative (decimal n) (decimal_digits n lt) (ap (λ (x : ℕ). fits (negative, x)) is ∙ fit))

pub value_spells : (v : Value) → is_value v ≡ true → SpellsValue v (value_text v)
unfolding value_text
value_spells (values.Int (pos n)) small = let lt : n < 2 ^ 63 = ltb-true _ _ small in int_spells false n (omega arith) small
value_spells (values.Int (negsuc n)) small = let lt : n < 2 ^ 63 = ltb-true _ _ small in int_spells true (suc n) (omega arith) (grind (arith, nat_tests))
value_spells (values.Bool true) small = true_word (codes "true") refl
value_spells (values.Bool false) small = false_word (codes "false") refl
value_spells (values.Str text) small = quoted_text text (part_text parts.Quoted text) (escaped_spells parts.Quoted text refl)

-- ---- tags and fields

pub tags_spell : (ts : List Tag) → list_all (λ t. is_name t.0 && is_name t.1) ts ≡ true → SpellsTags ts (flat_map tag_text ts)
tags_spell [] named = no_tags
tags_spell (t ∷ ts) named =
    let here : (is_name t.0 && is_name t.1) ≡ true = first_of _ (list_all (λ t. is_name t.0 && is_name t.1) ts) named in
    let key : is_name t.0 ≡ true = first_of (is_name t.0) (is_name t.1) here in
    let value : is_name t.1 ≡ true = second_of (is_name t.0) (is_name t.1) here in
    let more = tags_spell ts (second_of (is_name t.0 && is_name t.1) _ named) in
    subst (SpellsTags (t ∷ ts)) (sym (flat_map-cons tag_text t ts ∙ ap (λ (x : List ℕ). comma ∷ x) (append_assoc (part_text parts.Key t.0) (equals ∷ part_text parts.Key t.1) (flat_map tag_text ts))))
    (more_tags t.0 t.1 (part_text parts.Key t.0) (part_text parts.Key t.1) ts (flat_map tag_text ts) (name_some t.0 key) (name_some t.1 value) (name_spells parts.Key t.0 refl key) (name_spells parts.Key t.1 refl value) more)

field_key : (f : Field) (fs : List Field) → list_all (λ f. is_name f.0 && is_value f.1) (f ∷ fs) ≡ true → is_name f.0 ≡ true
field_key f fs each = first_of (is_name f.0) (is_value f.1) (first_of _ (list_all (λ f. is_name f.0 && is_value f.1) fs) each)

field_value : (f : Field) (fs : List Field) → list_all (λ f. is_name f.0 && is_value f.1) (f ∷ fs) ≡ true → is_value f.1 ≡ true
field_value f fs each = second_of (is_name f.0) (is_value f.1) (first_of _ (list_all (λ f. is_name f.0 && is_value f.1) fs) each)

fields_spell : (f : Field) (fs : List Field) → list_all (λ f. is_name f.0 && is_value f.1) (f ∷ fs) ≡ true → SpellsFields (f ∷ fs) (fields_text (f ∷ fs))
fields_spell f [] each =
    subst (SpellsFields (f ∷ [])) (sym (append-nil (field_text f)))
    (one_field f.0 f.1 (part_text parts.Key f.0) (value_text f.1) (name_some f.0 (field_key f [] each)) (name_spells parts.Key f.0 refl (field_key f [] each)) (value_spells f.1 (field_value f [] each)))
fields_spell f (g ∷ fs) each =
    let more = fields_spell g fs (second_of (is_name f.0 && is_value f.1) _ each) in
    let grouped : fields_text (f ∷ g ∷ fs) ≡ part_text parts.Key f.0 ++ (equals ∷ (value_text f.1 ++ (comma ∷ fields_text (g ∷ fs)))) =
    ap (λ (x : List ℕ). field_text f ++ x) (flat_map-cons (λ g. comma ∷ field_text g) g fs)
    ∙ append_assoc (part_text parts.Key f.0) (equals ∷ value_text f.1) (comma ∷ fields_text (g ∷ fs)) in
    subst (SpellsFields (f ∷ g ∷ fs)) (sym grouped)
    (more_fields f.0 f.1 (part_text parts.Key f.0) (value_text f.1) (g ∷ fs) (fields_text (g ∷ fs)) (name_some f.0 (field_key f (g ∷ fs) each)) (name_spells parts.Key f.0 refl (field_key f (g ∷ fs) each)) (value_spells f.1 (field_value f (g ∷ fs) each)) more)

pub all_fields_spell : (fs : List Field) → 0 < length fs → list_all (λ f. is_name f.0 && is_value f.1) fs ≡ true → SpellsFields fs (fields_text fs)
all_fields_spell [] some each = absurd (omega arith)
all_fields_spell (f ∷ fs) some each = fields_spell f fs each

-- ---- the time

time_from : (negative : Bool) (n : ℕ) → n ≤ TIME_LIMIT → SpellsTime Recording (with_sign (negative, n)) (space ∷ (minus negative ++ decimal n))
time_from negative n le =
    let is : digits_value 10 (decimal n) * 1 ≡ n = omega (arith, digits_value-decimal own n (omega arith)) in
    subst (λ (x : ℕ). SpellsTime Recording (with_sign (negative, x)) (space ∷ (minus negative ++ decimal n))) is
    (some_time Recording 0 negative (decimal n) (decimal_digits n (omega arith)) (le-leb _ _ (omega (arith, is))))

pub time_spells : (t : ℤ) → is_time t ≡ true → SpellsTime Recording t (space ∷ signed_decimal t)
time_spells (pos n) small = time_from false n (leb-true _ _ small)
time_spells (negsuc n) small = let lt : n < TIME_LIMIT = ltb-true _ _ small in time_from true (suc n) (omega arith)

-- ---- what stands before

-- bytes that are kept are kept on
pub kept_on : (a b c : List ℕ) → take (length a) b ≡ a → take (length b) c ≡ b → take (length a) c ≡ a
kept_on a b c first second = grind (arith, common_steps)

pub kept_before : (a b more : List ℕ) → b ≡ a ++ more → take (length a) b ≡ a
kept_before a b more is = grind (arith, common_steps)
