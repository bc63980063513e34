-- The line that is printed of a point is clean, and spells the point without what it is grouped by.
use Rattle.std.proofs.Common.{◌≡◌, ℕ, zero, suc, ◌<◌, ◌≤◌, Bool, true, false, not, ◌&&◌, List, [], ◌∷◌, ◌++◌, length, Ok, Some, refl, sym, ap, subst, append_assoc, eqb, arith}
use Rattle.std.specs.Prelude.{ℤ, codes, IsUtf8, nat_lt, bytes_eq}
use Rattle.std.specs.Char.{is_ascii_digit}
use Rattle.std.specs.List.{list_all, list_any, flat_map, AllByRecursion}
use Rattle.std.specs.Str.{is_utf8}
use Rattle.std.specs.Fmt.{signed_decimal}
use Rattle.std.specs.FinMap.{entries, len, len-entries}
use Rattle.std.proofs.lemmas.Bool.{ltb-true}
use Rattle.std.proofs.lemmas.Bool.Decides.{nat_tests}
use Rattle.std.proofs.lemmas.List.{append-nil}
use Rattle.std.proofs.lemmas.Str.{IsUtf8-append, IsUtf8-nil, IsUtf8-from_ascii, IsUtf8-from_is_utf8, is_utf8-from_IsUtf8}
use Rattle.std.proofs.lemmas.Str.Ascii.{IsAscii-nil, IsAscii-cons}
use Rattle.kap_base.specs.Texts.{backslash, line_feed, has_line_feed, is_line, is_empty, begins_with, number_sign, ends_with, is_name}
use Rattle.kap_base.specs.Points.{PointValue, IsPoint, is_value}
use Rattle.kap_base.specs.declared.value.Value.{Value}
use Rattle.line_points.specs.declared.line.TheConstants.{LINE_LIMIT}
use Rattle.line_points.specs.declared.part.Part.{Part}
use Rattle.line_points.specs.declared.part.Part.TheVariants as parts
use Rattle.line_points.specs.declared.mode.Mode.{Mode}
use Rattle.line_points.specs.declared.mode.Mode.TheVariants.{Recording}
use Rattle.line_points.specs.Parts.{comma, equals, quote, space, escapes}
use Rattle.line_points.specs.Numbers.{true_words, false_words}
use Rattle.line_points.specs.Line.{Tag, Field, line_of, stored_of}
use Rattle.line_points.specs.Grammar.{Spells, no_bytes, plain, behind_backslash, minus, spaces, SpellsValue, integer_word, true_word, false_word, quoted_text, SpellsTags, no_tags, more_tags, SpellsFields, one_field, more_fields, SpellsTime, no_time, some_time, Spelled, IsOf}
use Rattle.line_points.specs.Print.{part_text, tag_text, fields_text, Print, without_grouping}
use Rattle.kap_base.proofs.TestLaws.{first_of, second_of, first_false, second_false, not_true}
use Rattle.line_points.proofs.CleanLaws.{IsClean, clean_line}
use Rattle.line_points.proofs.Utf8Laws.{around}
use Rattle.line_points.proofs.ValueLaws.{one_of}
use Rattle.kap_base.proofs.EntryLaws.{with_own_entries}
use Rattle.line_points.proofs.DifferLaws.{keys_once}
use Rattle.line_points.proofs.PrintLaws.{name_some, name_spells, tags_spell, all_fields_spell, time_spells}
use Rattle.line_points.proofs.WholeLaws.{spelled_line, spelled_stored}

-- ---- clean bytes put together

feeds-append : (xs ys : List ℕ) → has_line_feed xs ≡ false → has_line_feed ys ≡ false → has_line_feed (xs ++ ys) ≡ false
feeds-append [] ys p q = q
feeds-append (x ∷ xs) ys p q =
    let here : eqb x line_feed ≡ false = first_false (eqb x line_feed) (has_line_feed xs) p in
    rw here (feeds-append xs ys (second_false (eqb x line_feed) (has_line_feed xs) p) q)

together : (xs ys : List ℕ) → IsClean xs → IsClean ys → IsClean (xs ++ ys)
together xs ys p q = record { one_line = feeds-append xs ys p.one_line q.one_line; valid = IsUtf8-append xs ys p.valid q.valid }

nothing : IsClean []
nothing = record { one_line = refl; valid = IsUtf8-nil }

ascii_one : (b : ℕ) → b < 128 → IsUtf8 (b ∷ [])
ascii_one b lt = IsUtf8-from_ascii (b ∷ []) (IsAscii-cons b [] lt IsAscii-nil)

-- an ASCII byte that is no line feed
is_sign : ℕ → Bool
is_sign b = nat_lt b 128 && not (eqb b line_feed)

onto_clean : (b : ℕ) (ys : List ℕ) → is_sign b ≡ true → IsClean ys → IsClean (b ∷ ys)
unfolding is_sign
onto_clean b ys sign c =
    let apart : eqb b line_feed ≡ false = not_true (eqb b line_feed) (second_of (nat_lt b 128) _ sign) in
    record { one_line = rw apart c.one_line; valid = IsUtf8-append (b ∷ []) ys (ascii_one b (ltb-true _ _ (first_of (nat_lt b 128) (not (eqb b line_feed)) sign))) c.valid }

all_signs : (bytes : List ℕ) → list_all is_sign bytes ≡ true → IsClean bytes
all_signs [] all = nothing
all_signs (b ∷ bytes) all = onto_clean b bytes (first_of (is_sign b) _ all) (all_signs bytes (second_of (is_sign b) _ all))

digits_clean : (digits : List ℕ) → list_all is_ascii_digit digits ≡ true → IsClean digits
unfolding is_sign
digits_clean [] all = nothing
digits_clean (d ∷ digits) all =
    let here : is_sign d ≡ true = grind (arith, nat_tests) in
    onto_clean d digits here (digits_clean digits (second_of (is_ascii_digit d) _ all))

-- ---- a spelling of a clean text is clean

spelling-feeds : {part : Part} {text spelling : List ℕ} → Spells part text spelling → has_line_feed text ≡ false → has_line_feed spelling ≡ false
spelling-feeds no_bytes h = refl
spelling-feeds (plain b text bytes alone more) h =
    let here : eqb b line_feed ≡ false = first_false (eqb b line_feed) (has_line_feed text) h in
    rw here (spelling-feeds more (second_false (eqb b line_feed) (has_line_feed text) h))
spelling-feeds (behind_backslash b text bytes can more) h =
    let here : eqb b line_feed ≡ false = first_false (eqb b line_feed) (has_line_feed text) h in
    rw here (spelling-feeds more (second_false (eqb b line_feed) (has_line_feed text) h))

escapes-ascii : (part : Part) (b : ℕ) → escapes part b ≡ true → b < 128
escapes-ascii parts.Measurement b h = grind (arith, nat_tests)
escapes-ascii parts.Key b h = grind (arith, nat_tests)
escapes-ascii parts.Quoted b h = grind (arith, nat_tests)

spelling-utf8 : {part : Part} {text spelling : List ℕ} → Spells part text spelling → (front : List ℕ) → IsUtf8 (front ++ text) → IsUtf8 (front ++ spelling)
spelling-utf8 no_bytes front valid = valid
spelling-utf8 (plain b text bytes alone more) front valid =
    subst IsUtf8 (append_assoc front (b ∷ []) bytes) (spelling-utf8 more (front ++ b ∷ []) (subst IsUtf8 (sym (append_assoc front (b ∷ []) text)) valid))
spelling-utf8 {part} (behind_backslash b text bytes can more) front valid =
    let lt = escapes-ascii part b can in
    let a = around front b text valid lt in
    let pair = IsUtf8-append (backslash ∷ []) (b ∷ []) (ascii_one backslash (omega arith)) (ascii_one b lt) in
    let start = IsUtf8-append front (backslash ∷ b ∷ []) a.before pair in
    subst IsUtf8 (append_assoc front (backslash ∷ b ∷ []) bytes) (spelling-utf8 more (front ++ backslash ∷ b ∷ []) (IsUtf8-append (front ++ backslash ∷ b ∷ []) text start a.behind))

spelling_clean : {part : Part} {text spelling : List ℕ} → Spells part text spelling → IsClean text → IsClean spelling
spelling_clean spells c = record { one_line = spelling-feeds spells c.one_line; valid = spelling-utf8 spells [] c.valid }

line_clean : (text : List ℕ) → is_line text ≡ true → IsClean text
line_clean text h = record { one_line = not_true (has_line_feed text) (first_of _ (is_utf8 text) h); valid = IsUtf8-from_is_utf8 text (second_of (not (has_line_feed text)) _ h) }

name_clean : (text : List ℕ) → is_name text ≡ true → IsClean text
name_clean text h = line_clean text (second_of (not (is_empty text) && not (ends_with backslash text)) _ h)

minus_clean : (negative : Bool) (rest : List ℕ) → IsClean rest → IsClean (minus negative ++ rest)
unfolding is_sign
minus_clean true rest c = onto_clean 45 rest refl c
minus_clean false rest c = c

word_clean : (word : List ℕ) (words : List (List ℕ)) → list_any (bytes_eq word) words ≡ true → AllByRecursion (λ w. list_all is_sign w ≡ true) words → IsClean word
word_clean word words h signs = all_signs word (one_of (λ w. list_all is_sign w ≡ true) word words h signs)

value_clean : {v : Value} {value : List ℕ} → SpellsValue v value → is_value v ≡ true → IsClean value
unfolding is_sign
value_clean (integer_word negative digits all fit) is = minus_clean negative (digits ++ codes "i") (together digits (codes "i") (digits_clean digits (second_of (not (is_empty digits)) _ all)) (all_signs (codes "i") refl))
value_clean (true_word word h) is = word_clean word true_words h (refl, (refl, (refl, (refl, (refl, tt)))))
value_clean (false_word word h) is = word_clean word false_words h (refl, (refl, (refl, (refl, (refl, tt)))))
value_clean (quoted_text text bytes spells) is = onto_clean quote (bytes ++ quote ∷ []) refl (together bytes (quote ∷ []) (spelling_clean spells (line_clean text is)) (all_signs (quote ∷ []) refl))

key_clean : (k key rest : List ℕ) → Spells parts.Key k key → is_name k ≡ true → IsClean rest → IsClean (key ++ (equals ∷ rest))
unfolding is_sign
key_clean k key rest spells named c = together key (equals ∷ rest) (spelling_clean spells (name_clean k named)) (onto_clean equals rest refl c)

tags_clean : {ts : List Tag} {front : List ℕ} → SpellsTags ts front → list_all (λ t. is_name t.0 && is_name t.1) ts ≡ true → IsClean front
unfolding is_sign
tags_clean no_tags named = nothing
tags_clean (more_tags k v key value ts more some_key some_value key_spells value_spells spells) named =
    let here : (is_name k && is_name v) ≡ true = first_of _ (list_all (λ t. is_name t.0 && is_name t.1) ts) named in
    onto_clean comma (key ++ (equals ∷ (value ++ more))) refl
    (key_clean k key (value ++ more) key_spells (first_of (is_name k) (is_name v) here)
    (together value more (spelling_clean value_spells (name_clean v (second_of (is_name k) (is_name v) here))) (tags_clean spells (second_of (is_name k && is_name v) _ named))))

fields_clean : {fs : List Field} {front : List ℕ} → SpellsFields fs front → list_all (λ f. is_name f.0 && is_value f.1) fs ≡ true → IsClean front
unfolding is_sign
fields_clean (one_field k v key value some key_spells value_spells) each =
    let here : (is_name k && is_value v) ≡ true = first_of _ true each in
    key_clean k key value key_spells (first_of (is_name k) (is_value v) here) (value_clean value_spells (second_of (is_name k) (is_value v) here))
fields_clean (more_fields k v key value fs more some key_spells value_spells spells) each =
    let here : (is_name k && is_value v) ≡ true = first_of _ (list_all (λ f. is_name f.0 && is_value f.1) fs) each in
    key_clean k key (value ++ (comma ∷ more)) key_spells (first_of (is_name k) (is_value v) here)
    (together value (comma ∷ more) (value_clean value_spells (second_of (is_name k) (is_value v) here)) (onto_clean comma more refl (fields_clean spells (second_of (is_name k && is_value v) _ each))))

spaces_clean : (n : ℕ) (rest : List ℕ) → IsClean rest → IsClean (spaces n ++ rest)
unfolding is_sign
spaces_clean zero rest c = c
spaces_clean (suc n) rest c = onto_clean space (spaces n ++ rest) refl (spaces_clean n rest c)

time_clean : {mode : Mode} {t : ℤ} {time : List ℕ} → SpellsTime mode t time → IsClean time
unfolding is_sign
time_clean (no_time unit now) = nothing
time_clean (some_time mode n negative digits all range) =
    onto_clean space (spaces n ++ (minus negative ++ digits)) refl (spaces_clean n (minus negative ++ digits) (minus_clean negative digits (digits_clean digits (second_of (not (is_empty digits)) _ all))))

-- ---- the line of a point

pub record IsPrinted (p : PointValue) : Type 0 where
  pub clean : IsClean (Print p)
  pub spelled : Spelled Recording (without_grouping p) (Print p)

pub printed : (p : PointValue) → IsPoint p → IsPrinted p
unfolding is_sign
printed p is =
    let name_is : is_name p.name ≡ true = second_of (not (begins_with number_sign p.name)) _ is.name in
    let name = name_spells parts.Measurement p.name refl name_is in
    let tags = tags_spell (entries p.tags) is.tags in
    let some : 0 < length (entries p.fields) = omega (arith, ltb-true _ _ is.some_field, len-entries p.fields) in
    let fields = all_fields_spell (entries p.fields) some is.fields in
    let time = time_spells p.time is.time in
    let last = space ∷ signed_decimal p.time in
    record {
      clean =
          together (part_text parts.Measurement p.name) _ (spelling_clean name (name_clean p.name name_is))
          (together (flat_map tag_text (entries p.tags)) _ (tags_clean tags is.tags)
          (onto_clean space (fields_text (entries p.fields) ++ last) refl
          (together (fields_text (entries p.fields)) last (fields_clean fields is.fields) (time_clean time))));
      spelled = record {
        before = 0;
        name = part_text parts.Measurement p.name;
        tags = flat_map tag_text (entries p.tags);
        between = 0;
        fields = fields_text (entries p.fields);
        time = last;
        behind = 0;
        line_is = ap (λ (x : List ℕ). part_text parts.Measurement p.name ++ (flat_map tag_text (entries p.tags) ++ (space ∷ (fields_text (entries p.fields) ++ x)))) (sym (append-nil last));
        some_name = name_some p.name name_is;
        no_comment = not_true (begins_with number_sign p.name) (first_of _ (is_name p.name) is.name);
        name_spelled = name;
        ts = entries p.tags;
        tags_spelled = tags;
        keys_differ = keys_once (entries p.tags) (len p.tags) (length (entries p.tags)) p.tags refl refl (sym (with_own_entries p.tags)) (len-entries p.tags);
        tags_are = sym (with_own_entries p.tags);
        fs = entries p.fields;
        fields_spelled = fields;
        fields_are = sym (with_own_entries p.fields);
        time_spelled = time;
      };
    }

-- ---- what print_line promises

pub record PrintsAgain (line : List ℕ) (p : PointValue) : Type 0 where
  pub one_line : is_line line ≡ true
  pub again : length line ≤ LINE_LIMIT → line_of p.db p.rp Recording line ≡ Ok (Some (without_grouping p))
  pub stored_again : stored_of p.db p.rp Recording line ≡ Ok (without_grouping p)

pub prints_again : (line : List ℕ) (p : PointValue) → IsPoint p → line ≡ Print p → PrintsAgain line p
prints_again line p is line_is =
    let q = printed p is in
    let valid : is_utf8 (Print p) ≡ true = is_utf8-from_IsUtf8 (Print p) q.clean.valid in
    let of_same : IsOf p.db p.rp (without_grouping p) = record { db = refl; rp = refl; dims = refl; by_name = refl } in
    subst (λ (x : List ℕ). PrintsAgain x p) (sym line_is) (record {
      one_line = clean_line (Print p) q.clean;
      again = λ short. spelled_line p.db p.rp Recording (Print p) (without_grouping p) of_same q.spelled valid short;
      stored_again = spelled_stored p.db p.rp Recording (Print p) (without_grouping p) of_same q.spelled valid;
    })
