-- A line that is clean and spells a point spells one that is a point.
use Rattle.std.proofs.Common.{◌≡◌, ℕ, zero, suc, ◌<◌, ◌≤◌, Bool, true, false, not, ◌&&◌, List, [], ◌∷◌, ◌++◌, refl, ap, subst, ◌∙◌, Ok, arith}
use Rattle.std.proofs.lemmas.Bool.{ltb-true, leb-true}
use Rattle.std.specs.Prelude.{ℤ, pos, negsuc, nat_le, nat_lt, IsUtf8}
use Rattle.std.specs.List.{list_all}
use Rattle.std.specs.FinMap.{entries, empty, len}
use Rattle.std.specs.Str.Parse.{digits_value}
use Rattle.std.proofs.lemmas.Bool.Decides.{nat_tests}
use Rattle.kap_base.specs.Texts.{begins_with, number_sign, has_line_feed, is_line, is_name}
use Rattle.kap_base.specs.Maps.{KeyMap, with_entries}
use Rattle.kap_base.specs.Points.{PointValue, IsPoint, is_time, is_value}
use Rattle.kap_base.specs.declared.value.Value.{Value}
use Rattle.kap_base.specs.declared.value.Value.TheVariants as values
use Rattle.kap_base.specs.declared.limits.TheConstants.{TIME_LIMIT}
use Rattle.line_points.specs.declared.mode.Mode.{Mode}
use Rattle.line_points.specs.Parts.{comma, equals, quote, space, without_spaces}
use Rattle.line_points.specs.Numbers.{with_sign, fits}
use Rattle.line_points.specs.Line.{Tag, Field, measurement_at, tags_at, fields_at, time_of, has_time}
use Rattle.line_points.specs.Grammar.{spaces, SpellsValue, integer_word, true_word, false_word, quoted_text, SpellsTags, no_tags, more_tags, SpellsFields, one_field, more_fields, SpellsTime, no_time, some_time, Spelled, IsOf}
use Rattle.std.proofs.lemmas.Int.{to_z-of_z}
use Rattle.kap_base.proofs.TestLaws.{both, not_true, not_false}
use Rattle.line_points.proofs.WholeLaws.{parts_spelled}
use mir.Val.{SFits, to_z, of_z}
use mir.Syntax.{w64}
use Rattle.line_points.proofs.CleanLaws.{IsClean, clean_line, starts_ascii, cut, behind_ascii, cut_at, behind_clean_spaces, spelled_clean, spelled_name}
use Rattle.kap_base.proofs.EntryLaws.{all-entries, some_entry}

-- ---- values

int_value_is : (n : Bool × ℕ) → fits n ≡ true → is_value (values.Int (with_sign n)) ≡ true
int_value_is (true, zero) h = refl
int_value_is (true, suc m) h = grind (arith, nat_tests)
int_value_is (false, m) h = h

value_is : {v : Value} {value : List ℕ} → SpellsValue v value → IsClean value → is_value v ≡ true
value_is (integer_word negative digits all fit) c = int_value_is (negative, digits_value 10 digits) fit
value_is (true_word word h) c = refl
value_is (false_word word h) c = refl
value_is (quoted_text text bytes spells) c = clean_line text (spelled_clean spells (cut_at bytes quote [] refl (behind_ascii quote (bytes ++ quote ∷ []) refl c)).before)

-- ---- tags

tags_start : {ts : List Tag} {front : List ℕ} → SpellsTags ts front → (rest : List ℕ) → starts_ascii rest ≡ true → starts_ascii (front ++ rest) ≡ true
tags_start no_tags rest ascii = ascii
tags_start (more_tags k v key value ts more some_key some_value key_spells value_spells spells) rest ascii = refl

tags_alone : {ts : List Tag} {front : List ℕ} → SpellsTags ts front → starts_ascii front ≡ true
tags_alone no_tags = refl
tags_alone (more_tags k v key value ts more some_key some_value key_spells value_spells spells) = refl

tags_are : {ts : List Tag} {front : List ℕ} → SpellsTags ts front → IsClean front → list_all (λ t. is_name t.0 && is_name t.1) ts ≡ true
tags_are no_tags c = refl
tags_are (more_tags k v key value ts more some_key some_value key_spells value_spells spells) c =
    let one = cut_at key equals (value ++ more) refl (behind_ascii comma (key ++ (equals ∷ (value ++ more))) refl c) in
    let two = cut value more (tags_alone spells) one.behind in
    both (is_name k && is_name v) _ (both (is_name k) (is_name v) (spelled_name key_spells refl some_key one.before) (spelled_name value_spells refl some_value two.before)) (tags_are spells two.behind)

-- ---- fields

fields_are : {fs : List Field} {front : List ℕ} → SpellsFields fs front → IsClean front → list_all (λ f. is_name f.0 && is_value f.1) fs ≡ true
fields_are (one_field k v key value some key_spells value_spells) c =
    let one = cut_at key equals value refl c in
    both (is_name k && is_value v) true (both (is_name k) (is_value v) (spelled_name key_spells refl some one.before) (value_is value_spells one.behind)) refl
fields_are (more_fields k v key value fs more some key_spells value_spells spells) c =
    let one = cut_at key equals (value ++ (comma ∷ more)) refl c in
    let two = cut_at value comma more refl one.behind in
    both (is_name k && is_value v) _ (both (is_name k) (is_value v) (spelled_name key_spells refl some one.before) (value_is value_spells two.before)) (fields_are spells two.behind)

some_field : {fs : List Field} {front : List ℕ} → SpellsFields fs front → nat_lt 0 (len (with_entries empty fs)) ≡ true
some_field (one_field k v key value some key_spells value_spells) = some_entry (k, v) []
some_field (more_fields k v key value fs more some key_spells value_spells spells) = some_entry (k, v) fs

-- ---- the time

signed_time : (negative : Bool) (n : ℕ) → nat_le n TIME_LIMIT ≡ true → is_time (with_sign (negative, n)) ≡ true
signed_time true zero h = refl
signed_time true (suc m) h = grind (arith, nat_tests)
signed_time false n h = h

time_is : {mode : Mode} {t : ℤ} {time : List ℕ} → SpellsTime mode t time → has_time mode ≡ true → is_time t ≡ true
time_is (no_time unit now) has = has
time_is (some_time mode n negative digits all range) has = signed_time negative _ range

time_start : {mode : Mode} {t : ℤ} {time : List ℕ} → SpellsTime mode t time → (behind : ℕ) → starts_ascii (time ++ spaces behind) ≡ true
time_start (no_time unit now) zero = refl
time_start (no_time unit now) (suc n) = refl
time_start (some_time mode n negative digits all range) behind = refl

-- ---- the point

pub spelled_is_point : (db rp : List ℕ) (mode : Mode) (line : List ℕ) (p : PointValue) → IsOf db rp p → Spelled mode p line → IsClean line → is_line db ≡ true → is_line rp ≡ true → has_time mode ≡ true → IsPoint p
spelled_is_point db rp mode line p is s c db_is rp_is has =
    let last = s.time ++ spaces s.behind in
    let middle = space ∷ (spaces s.between ++ (s.fields ++ last)) in
    let whole = behind_clean_spaces s.before (s.name ++ (s.tags ++ middle)) (subst IsClean s.line_is c) in
    let one = cut s.name (s.tags ++ middle) (tags_start s.tags_spelled middle refl) whole in
    let two = cut s.tags middle refl one.behind in
    let three = cut s.fields last (time_start s.time_spelled s.behind) (behind_clean_spaces s.between (s.fields ++ last) (behind_ascii space (spaces s.between ++ (s.fields ++ last)) refl two.behind)) in
    record {
      db = ap is_line is.db ∙ db_is;
      rp = ap is_line is.rp ∙ rp_is;
      name = both (not (begins_with number_sign p.name)) (is_name p.name) (not_false (begins_with number_sign p.name) s.no_comment) (spelled_name s.name_spelled refl s.some_name one.before);
      tags = ap (λ (m : KeyMap (List ℕ)). list_all (λ e. is_name e.0 && is_name e.1) (entries m)) s.tags_are ∙ all-entries is_name is_name s.ts (tags_are s.tags_spelled two.before);
      fields = ap (λ (m : KeyMap Value). list_all (λ e. is_name e.0 && is_value e.1) (entries m)) s.fields_are ∙ all-entries is_name is_value s.fs (fields_are s.fields_spelled three.before);
      some_field = ap (λ (m : KeyMap Value). nat_lt 0 (len m)) s.fields_are ∙ some_field s.fields_spelled;
      dims = rw is.dims refl;
      time = time_is s.time_spelled has;
    }

clean_from : (bytes : List ℕ) → not (has_line_feed bytes) ≡ true → IsUtf8 bytes → IsClean bytes
clean_from bytes one valid = record { one_line = not_true (has_line_feed bytes) one; valid = valid }

pub line_from : (bytes given : List ℕ) → bytes ≡ given → not (has_line_feed given) ≡ true → IsUtf8 bytes → is_line bytes ≡ true
line_from bytes given is one valid = clean_line bytes (clean_from bytes (ap (λ (x : List ℕ). not (has_line_feed x)) is ∙ one) valid)

time_fits : (t : ℤ) → is_time t ≡ true → SFits w64 t
time_fits (pos n) h = let le : n ≤ TIME_LIMIT = leb-true _ _ h in record { sfits = omega arith }
time_fits (negsuc n) h = let lt : n < TIME_LIMIT = ltb-true _ _ h in record { sfits = omega arith }

-- what is read makes a point
pub read_is_point : (db rp : List ℕ) (mode : Mode) (line name : List ℕ) (tags : KeyMap (List ℕ)) (fields : KeyMap Value) (dims : List (List ℕ)) (time : ℤ) (behind_name behind_tags behind_fields : List ℕ) → not (has_line_feed line) ≡ true → IsUtf8 line → is_line db ≡ true → is_line rp ≡ true → has_time mode ≡ true → measurement_at (without_spaces line) ≡ Ok (name, behind_name) → tags_at behind_name ≡ Ok (tags, behind_tags) → fields_at behind_tags ≡ Ok (fields, behind_fields) → time_of mode (without_spaces behind_fields) ≡ Ok time → dims ≡ [] → IsPoint (record { db = db; rp = rp; name = name; tags = tags; fields = fields; dims = dims; by_name = false; time = to_z w64 (of_z w64 time) })
read_is_point db rp mode line name tags fields dims time behind_name behind_tags behind_fields one valid db_is rp_is has name_is tags_are fields_are time_is none =
    let made : PointValue = record { db = db; rp = rp; name = name; tags = tags; fields = fields; dims = []; by_name = false; time = time } in
    let s = parts_spelled db rp mode line name tags fields time behind_name behind_tags behind_fields name_is tags_are fields_are time_is in
    let point = spelled_is_point db rp mode line made (record { db = refl; rp = refl; dims = refl; by_name = refl }) s (clean_from line one valid) db_is rp_is has in
    let same : to_z w64 (of_z w64 time) ≡ time = to_z-of_z w64 time (time_fits time point.time) in
    rw (same, none) point
