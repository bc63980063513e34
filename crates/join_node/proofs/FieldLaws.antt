-- The fields of a result are fields that a point can have.
use Rattle.std.proofs.Common.{rules, ◌≡◌, ℕ, ◌==◌, Bool, true, false, ◌&&◌, ◌||◌, not, List, [], ◌∷◌, ◌++◌, Option, Some, None, refl, ap, ◌∙◌, IsTrue, IsUtf8, Result, Ok, Err, OnOk, IfOk, ℤ, nat_lt, length, arith}
use Rattle.std.proofs.lemmas.Bool.Decides.{nat_tests}
use Rattle.std.specs.FinMap.{empty, entries, len, len-entries}
use Rattle.std.specs.Int.{w64}
use mir.Val.{SFits}
use Rattle.std.specs.Str.{is_utf8}
use Rattle.std.proofs.lemmas.List.Folds.{list_all-append, list_any-append}
use Rattle.std.proofs.lemmas.Str.{IsUtf8-append, IsUtf8-from_ascii, IsUtf8-from_is_utf8, is_utf8-from_IsUtf8}
use Rattle.kap_base.proofs.EntryLaws.{all-entries, some_entry}
use Rattle.kap_base.proofs.TestLaws.{first_of, second_of, both, not_true, not_false}
use Rattle.kap_base.proofs.TextLaws.{number_fits}
use Rattle.kap_base.specs.Maps.{KeyMap, with_entries}
use Rattle.kap_base.specs.Points.{PointValue, are_fields, is_value}
use Rattle.kap_base.specs.Texts.{backslash, ends_with, has_line_feed, is_empty, is_line, is_name, line_feed}
use Rattle.kap_base.specs.declared.value.Value.{Value}
use Rattle.task_graph.specs.declared.spec.JoinSpec.{JoinSpec}
use Rattle.join_node.specs.Results.{Entry, are_entries, delimiter_of, field_name, first_in, named_fields, parent_fields, set_fields, value_or}
use Rattle.join_node.specs.Sets.{Set}

-- ---- names

-- a dot is a text on one line
pub dot_is_line : IsTrue (is_line (46 ∷ []))
dot_is_line = is_utf8-from_IsUtf8 (46 ∷ []) (IsUtf8-from_ascii (46 ∷ []) (search rules))

pub no_line : (text : List ℕ) → text ≡ [] → IsUtf8 text → IsTrue (is_line text)
no_line [] is utf8 = is_utf8-from_IsUtf8 [] utf8
no_line (b ∷ text) is utf8 = absurd cc

line-append : (a b : List ℕ) → IsTrue (is_line a) → IsTrue (is_line b) → IsTrue (is_line (a ++ b))
line-append a b p q =
    let left_none : has_line_feed a ≡ false = not_true (has_line_feed a) (first_of (not (has_line_feed a)) (is_utf8 a) p) in
    let right_none : has_line_feed b ≡ false = not_true (has_line_feed b) (first_of (not (has_line_feed b)) (is_utf8 b) q) in
    let none : has_line_feed (a ++ b) ≡ false = list_any-append (λ (x : ℕ). x == line_feed) a b ∙ (λ i. left_none i || right_none i) in
    let utf8 : is_utf8 (a ++ b) ≡ true =
    is_utf8-from_IsUtf8 (a ++ b)
    (IsUtf8-append a b (IsUtf8-from_is_utf8 a (second_of (not (has_line_feed a)) (is_utf8 a) p))
    (IsUtf8-from_is_utf8 b (second_of (not (has_line_feed b)) (is_utf8 b) q))) in
    both (not (has_line_feed (a ++ b))) (is_utf8 (a ++ b)) (not_false (has_line_feed (a ++ b)) none) utf8

ends-append : (c : ℕ) (a b : List ℕ) → is_empty b ≡ false → ends_with c (a ++ b) ≡ ends_with c b
ends-append c [] b some = refl
ends-append c (x ∷ []) [] some = absurd cc
ends-append c (x ∷ []) (y ∷ b) some = refl
ends-append c (x ∷ z ∷ a) b some = ends-append c (z ∷ a) b some

some-append : (a b : List ℕ) → is_empty a ≡ false → is_empty (a ++ b) ≡ false
some-append [] b some = absurd cc
some-append (x ∷ a) b some = refl

some-behind : (a b : List ℕ) → is_empty b ≡ false → is_empty (a ++ b) ≡ false
some-behind [] b some = some
some-behind (x ∷ a) b some = refl

record NameParts (a : List ℕ) : Type 0 where
  some : is_empty a ≡ false
  ending : ends_with backslash a ≡ false
  line : IsTrue (is_line a)

name-parts : (a : List ℕ) → IsTrue (is_name a) → NameParts a
name-parts a h =
    let front : (not (is_empty a) && not (ends_with backslash a)) ≡ true = first_of (not (is_empty a) && not (ends_with backslash a)) (is_line a) h in
    record {
      some = not_true (is_empty a) (first_of (not (is_empty a)) (not (ends_with backslash a)) front);
      ending = not_true (ends_with backslash a) (second_of (not (is_empty a)) (not (ends_with backslash a)) front);
      line = second_of (not (is_empty a) && not (ends_with backslash a)) (is_line a) h;
    }

name-of : (a : List ℕ) → NameParts a → IsTrue (is_name a)
name-of a h =
    both (not (is_empty a) && not (ends_with backslash a)) (is_line a)
    (both (not (is_empty a)) (not (ends_with backslash a)) (not_false (is_empty a) h.some) (not_false (ends_with backslash a) h.ending)) h.line

field-name : (delimiter prefix name : List ℕ) → IsTrue (is_line delimiter) → IsTrue (is_name prefix) → IsTrue (is_name name)
    → IsTrue (is_name (field_name delimiter prefix name))
field-name delimiter prefix name d p n =
    let front = name-parts prefix p in
    let back = name-parts name n in
    let some : is_empty (delimiter ++ name) ≡ false = some-behind delimiter name back.some in
    name-of (field_name delimiter prefix name) (record {
      some = some-append prefix (delimiter ++ name) front.some;
      ending = ends-append backslash prefix (delimiter ++ name) some ∙ ends-append backslash delimiter name back.some ∙ back.ending;
      line = line-append prefix (delimiter ++ name) front.line (line-append delimiter name d back.line);
    })

-- ---- fields of one parent

-- the number is a value, if there is one
abbrev pub FitsOr : Option ℤ → Type 0
FitsOr number = (v : Value) → IsTrue (is_value v) → IsTrue (is_value (value_or number v))

named-fits : (delimiter prefix : List ℕ) (number : Option ℤ) (es : List Entry) → IsTrue (is_line delimiter) → IsTrue (is_name prefix) → FitsOr number
    → IsTrue (are_entries es) → IsTrue (are_entries (named_fields delimiter prefix number es))
named-fits delimiter prefix number [] d p f h = refl
named-fits delimiter prefix number (e ∷ es) d p f h =
    let here : (is_name e.0 && is_value e.1) ≡ true = first_of (is_name e.0 && is_value e.1) (are_entries es) h in
    both (is_name (field_name delimiter prefix e.0) && is_value (value_or number e.1)) (are_entries (named_fields delimiter prefix number es))
    (both (is_name (field_name delimiter prefix e.0)) (is_value (value_or number e.1))
    (field-name delimiter prefix e.0 d p (first_of (is_name e.0) (is_value e.1) here)) (f e.1 (second_of (is_name e.0) (is_value e.1) here)))
    (named-fits delimiter prefix number es d p f (second_of (is_name e.0 && is_value e.1) (are_entries es) h))

more-entries : (a b : List Entry) → IsTrue (are_entries a) → IsTrue (are_entries b) → IsTrue (are_entries (a ++ b))
more-entries a b p q = list_all-append (λ (e : Entry). is_name e.0 && is_value e.1) a b ∙ both (are_entries a) (are_entries b) p q

-- behind others
pub more_named : (delimiter prefix : List ℕ) (number : Option ℤ) (a es : List Entry) → IsTrue (is_line delimiter) → IsTrue (is_name prefix) → FitsOr number
    → IsTrue (are_entries a) → IsTrue (are_entries es)
    → IsTrue (are_entries (a ++ named_fields delimiter prefix number es))
more_named delimiter prefix number a es d p f h hs = more-entries a (named_fields delimiter prefix number es) h (named-fits delimiter prefix number es d p f hs)

pub no_number : FitsOr None
no_number v h = h

pub number_or : (n : ℤ) → SFits w64 n → FitsOr (Some n)
number_or n fits v h = number_fits n fits

-- ---- fields of all

pub fields_fit : (es : List Entry) → IsTrue (are_entries es) → IsTrue (are_fields (with_entries empty es))
fields_fit es h = all-entries is_name is_value es h

abbrev has_some : List Entry → Bool
has_some [] = false
has_some (e ∷ es) = true

some-front : (a b : List Entry) → has_some a ≡ true → has_some (a ++ b) ≡ true
some-front [] b h = absurd cc
some-front (e ∷ a) b h = refl

some-back : (a b : List Entry) → has_some b ≡ true → has_some (a ++ b) ≡ true
some-back [] b h = h
some-back (e ∷ a) b h = refl

some-named : (delimiter prefix : List ℕ) (es : List Entry) → has_some es ≡ true → has_some (named_fields delimiter prefix None es) ≡ true
some-named delimiter prefix [] h = absurd cc
some-named delimiter prefix (e ∷ es) h = refl

-- the first present parent gives fields
some-fields : (j : JoinSpec) (prefixes : List (List ℕ)) (s : Set) (p : PointValue) → first_in prefixes s ≡ Some p → has_some (entries p.fields) ≡ true
    → has_some (set_fields j (entries p.fields) prefixes s) ≡ true
some-fields j [] s p is h = absurd cc
some-fields j (prefix ∷ prefixes) [] p is h = absurd cc
some-fields j (prefix ∷ prefixes) (Some q ∷ s) p is h =
    let same : q ≡ p = cc in
    some-front (parent_fields j prefix (entries p.fields) (Some q)) (set_fields j (entries p.fields) prefixes s)
    (some-named (delimiter_of j.delimiter) prefix (entries q.fields) (ap (λ (x : PointValue). has_some (entries x.fields)) same ∙ h))
some-fields j (prefix ∷ prefixes) (None ∷ s) p is h =
    some-back (parent_fields j prefix (entries p.fields) None) (set_fields j (entries p.fields) prefixes s) (some-fields j prefixes s p is h)

entry-there : (es : List Entry) → has_some es ≡ true → IsTrue (nat_lt 0 (len (with_entries {V = Value} empty es)))
entry-there [] h = absurd cc
entry-there (e ∷ es) h = some_entry e es

has-entry : (es : List Entry) (n : ℕ) → n ≡ length es → IsTrue (nat_lt 0 n) → has_some es ≡ true
has-entry [] n is h = absurd (none n is h)
  where
    none : (n : ℕ) → n ≡ 0 → IsTrue (nat_lt 0 n) → ⊥
    none n is h = grind (arith, nat_tests)
has-entry (e ∷ es) n is h = refl

pub fields_some : (j : JoinSpec) (s : Set) (p : PointValue) → first_in j.prefixes s ≡ Some p → IsTrue (nat_lt 0 (len p.fields))
    → IsTrue (nat_lt 0 (len (with_entries {V = Value} empty (set_fields j (entries p.fields) j.prefixes s))))
fields_some j s p is h = entry-there (set_fields j (entries p.fields) j.prefixes s)
    (some-fields j j.prefixes s p is (has-entry (entries p.fields) (len p.fields) (len-entries p.fields) h))

-- ---- where a call answers

pub added : {A E : Type 0} (r : Result A E) (new old more : List Entry) → OnOk r (new ≡ old ++ more) → IsTrue (are_entries (old ++ more))
    → OnOk r (IsTrue (are_entries new))
added (Ok x) new old more is h = rw is h
added (Err e) new old more is h = is

pub made_fit : {E : Type 0} (r : Result (KeyMap Value) E) (es : List Entry) → IfOk r (λ m. m ≡ with_entries empty es)
    → IsTrue (are_fields (with_entries empty es)) → IfOk r (λ m. IsTrue (are_fields m))
made_fit (Ok m) es is h = rw is h
made_fit (Err e) es is h = is

pub made_some : {E : Type 0} (r : Result (KeyMap Value) E) (es : List Entry) → IfOk r (λ m. m ≡ with_entries empty es)
    → IsTrue (nat_lt 0 (len (with_entries {V = Value} empty es))) → IfOk r (λ m. IsTrue (nat_lt 0 (len m)))
made_some (Ok m) es is h = rw is h
made_some (Err e) es is h = is
