-- Where a field is faulty: which fault is read, and what stands there.
use Rattle.std.proofs.Common.{◌≡◌, ℕ, zero, suc, ◌<◌, ◌≤◌, Bool, true, false, not, cond, ◌&&◌, Option, Some, None, List, [], ◌∷◌, ◌++◌, length, drop, Ok, Err, refl, sym, ap, subst, ◌∙◌, append_assoc, arith, inl, inr}
use Rattle.std.specs.Prelude.{Result, codes}
use Rattle.std.specs.List.{before_first, position_or_len}
use Rattle.std.specs.Option.{option_map_or}
use Rattle.std.specs.FinMap.{empty}
use Rattle.std.proofs.lemmas.Bool.Decides.{nat_tests}
use Rattle.std.proofs.lemmas.List.{length-append, take-append-drop}
use Rattle.kap_base.specs.Words.{◌>>=◌}
use Rattle.kap_base.specs.Texts.{is_empty, begins_with}
use Rattle.kap_base.specs.Maps.{KeyMap, with_entries}
use Rattle.kap_base.specs.declared.value.Value.{Value}
use Rattle.kap_base.specs.declared.value.Value.TheVariants as values
use Rattle.line_points.specs.declared.fault.LineFault.{LineFault}
use Rattle.line_points.specs.declared.fault.LineFault.TheVariants as faults
use Rattle.line_points.specs.declared.part.Part.TheVariants as parts
use Rattle.line_points.specs.Parts.{begins, comma, equals, quote, space, is_space, is_separator, without_spaces, text_at, is_at_separator}
use Rattle.line_points.specs.Numbers.{is_digits, with_sign, fits, is_true, is_false}
use Rattle.line_points.specs.Words.{int_value, integer_of, other_value, word_value, is_float, is_unsigned}
use Rattle.line_points.specs.Line.{Field, quoted_at, word_at, value_at, field_at, fields_from, fields_at}
use Rattle.line_points.specs.Grammar.{Spells, SpellsFields, one_field, more_fields, spaces}
use Rattle.line_points.specs.FaultRows.{SpellsFloat, SpellsUnsigned, unsigned_word, SpellsSome, FieldOf, FieldPlace, first_place, later_place, FieldFault, float_value, unsigned_value, no_field}
use Rattle.kap_base.proofs.TestLaws.{first_of, second_of, not_true, err_is, made_err}
use Rattle.line_points.proofs.NumberLaws.{before_last_byte-last}
use Rattle.line_points.proofs.PlaceLaws.{word_ends}
use Rattle.line_points.proofs.SpellLaws.{text_taken, spelling_again}
use Rattle.line_points.proofs.TagLaws.{begins_some, behind_first}
use Rattle.line_points.proofs.SpaceLaws.{spaces_skipped, only_spaces}
use Rattle.line_points.proofs.ValueLaws.{no_separator, next_word, place_end}
use Rattle.line_points.proofs.FieldLaws.{FieldTaken, field_taken, field_again, one_read}
use Rattle.line_points.proofs.LineLaws.{with_first, more_fields as fields_behind, comma-shorter, no_field as no_field_read}
use Rattle.line_points.proofs.WholeLaws.{fields_first, fields_some}
use Rattle.line_points.proofs.FloatLaws.{is_number_byte, float_passes, float_spelled, float_first, float_whole, float_no_integer, unsigned_spelled, unsigned_first, unsigned_whole, unsigned_no_float, no_true, no_false}

-- ---- words

-- what a word is whose value is a fault
data WordFault (word : List ℕ) : LineFault → Type 0 where
  is_float_word : SpellsFloat word → WordFault word faults.FloatField
  is_unsigned_word : SpellsUnsigned word → WordFault word faults.UnsignedField
  is_no_word : WordFault word faults.Field

int_fault : (number : Bool × ℕ) (word : List ℕ) (f : LineFault) → int_value number ≡ Err f → WordFault word f
int_fault number word f e = by_test (fits number) e
  where
    by_test : (b : Bool) → cond b (Ok (values.Int (with_sign number))) (Err faults.Field) ≡ Err f → WordFault word f
    by_test true e = absurd cc
    by_test false e = subst (WordFault word) (err_is {A = Value} faults.Field f e) is_no_word

other_fault : (word : List ℕ) (f : LineFault) → other_value word ≡ Err f → WordFault word f
other_fault word f e = by_test (is_true word) (is_false word) (is_float word) (is_unsigned word) refl refl e
  where
    by_test : (a b c d : Bool) → is_float word ≡ c → is_unsigned word ≡ d → cond a (Ok (values.Bool true)) (cond b (Ok (values.Bool false)) (cond c (Err faults.FloatField) (cond d (Err faults.UnsignedField) (Err faults.Field)))) ≡ Err f → WordFault word f
    by_test true b c d floats unsigned e = absurd cc
    by_test false true c d floats unsigned e = absurd cc
    by_test false false true d floats unsigned e = subst (WordFault word) (err_is {A = Value} faults.FloatField f e) (is_float_word (float_spelled word floats))
    by_test false false false true floats unsigned e = subst (WordFault word) (err_is {A = Value} faults.UnsignedField f e) (is_unsigned_word (unsigned_spelled word unsigned))
    by_test false false false false floats unsigned e = subst (WordFault word) (err_is {A = Value} faults.Field f e) is_no_word

word_fault : (word : List ℕ) (f : LineFault) → word_value word ≡ Err f → WordFault word f
word_fault word f e = by_number (integer_of word) e
  where
    by_number : (o : Option (Bool × ℕ)) → option_map_or int_value o (other_value word) ≡ Err f → WordFault word f
    by_number (Some number) e = int_fault number word f e
    by_number None e = other_fault word f e

float_read : (word : List ℕ) → SpellsFloat word → word_value word ≡ Err faults.FloatField
float_read word spells =
    let first = float_first spells in
    rw (float_no_integer spells, no_true word first, no_false word first, float_passes spells) refl

unsigned_read : (digits : List ℕ) → is_digits digits ≡ true → word_value (digits ++ codes "u") ≡ Err faults.UnsignedField
unsigned_read digits all =
    let first = unsigned_first digits (codes "u") all in
    rw (before_last_byte-last 105 digits 117, no_true (digits ++ codes "u") first, no_false (digits ++ codes "u") first, unsigned_no_float digits, before_last_byte-last 117 digits 117, all) refl

no_quote : (word rest : List ℕ) → begins is_number_byte word ≡ true → begins_with quote (word ++ rest) ≡ false
no_quote [] rest first = absurd cc
no_quote (b ∷ word) rest first = grind (arith, nat_tests)

word_again : (word rest : List ℕ) (f : LineFault) → no_separator word ≡ true → begins is_number_byte word ≡ true → word_value word ≡ Err f → is_at_separator rest ≡ true → value_at (word ++ rest) ≡ Err f
unfolding word_at
word_again word rest f whole first read next =
    let ends = word_ends is_separator word rest whole (place_end rest next) in
    rw (no_quote word rest first, ends.before, read) refl

-- ---- one field

value_fault : (k key value rest : List ℕ) (f : LineFault) → is_empty k ≡ false → Spells parts.Key k key → value_at (value ++ rest) ≡ Err f → field_at (key ++ (equals ∷ (value ++ rest))) ≡ Err f
unfolding field_at
value_fault k key value rest f some spells read = rw (spelling_again spells (equals ∷ (value ++ rest)) refl, some, read) refl

float_again : (bytes : List ℕ) → FieldOf SpellsFloat bytes → field_at bytes ≡ Err faults.FloatField
float_again bytes o =
    ap field_at o.is
    ∙ value_fault o.k o.key o.value o.rest faults.FloatField o.some_key o.key_spelled
    (word_again o.value o.rest faults.FloatField (float_whole o.value_spelled) (float_first o.value_spelled) (float_read o.value o.value_spelled) o.ends)

unsigned_value_again : (word rest : List ℕ) → SpellsUnsigned word → is_at_separator rest ≡ true → value_at (word ++ rest) ≡ Err faults.UnsignedField
unsigned_value_again word rest (unsigned_word digits all) next =
    word_again (digits ++ codes "u") rest faults.UnsignedField (unsigned_whole digits all) (unsigned_first digits (codes "u") all) (unsigned_read digits all) next

unsigned_again : (bytes : List ℕ) → FieldOf SpellsUnsigned bytes → field_at bytes ≡ Err faults.UnsignedField
unsigned_again bytes o =
    ap field_at o.is ∙ value_fault o.k o.key o.value o.rest faults.UnsignedField o.some_key o.key_spelled (unsigned_value_again o.value o.rest o.value_spelled o.ends)

of_form : {Form : List ℕ → Type 0} (Other : List ℕ → Type 0) (bytes : List ℕ) → (o : FieldOf Form bytes) → Other o.value → FieldOf Other bytes
of_form Other bytes o other = record { k = o.k; key = o.key; value = o.value; rest = o.rest; is = o.is; some_key = o.some_key; key_spelled = o.key_spelled; value_spelled = other; ends = o.ends }

-- a field of some form isn't Field
some_again : (bytes : List ℕ) → FieldOf SpellsSome bytes → field_at bytes ≡ Err faults.Field → ⊥
some_again bytes o read = by_form o.value_spelled
  where
    by_form : SpellsSome o.value → ⊥
    by_form (inl (v, spells)) =
        let again : field_at bytes ≡ Ok ((o.k, v), o.rest) = ap field_at o.is ∙ field_again o.k v o.key o.value o.rest o.some_key o.key_spelled spells o.ends in
        cc
    by_form (inr (inl spells)) = let again = float_again bytes (of_form SpellsFloat bytes o spells) in cc
    by_form (inr (inr spells)) = let again = unsigned_again bytes (of_form SpellsUnsigned bytes o spells) in cc

none_here : (bytes : List ℕ) (f : LineFault) → field_at bytes ≡ Err f → faults.Field ≡ f → FieldFault bytes f
none_here bytes f read is = subst (FieldFault bytes) is (no_field (λ o. some_again bytes o (read ∙ ap (λ (x : LineFault). Err x) (sym is))))

word_here : (bytes k key behind : List ℕ) (f : LineFault) → field_at bytes ≡ Err f → bytes ≡ key ++ (equals ∷ behind) → is_empty k ≡ false → Spells parts.Key k key → WordFault (before_first is_separator behind) f → FieldFault bytes f
word_here bytes k key behind f read is some spells fault = by_fault f fault read
  where
    made : (Form : List ℕ → Type 0) → Form (before_first is_separator behind) → FieldOf Form bytes
    made Form spelled = record {
      k = k;
      key = key;
      value = before_first is_separator behind;
      rest = drop (position_or_len is_separator behind) behind;
      is = is ∙ ap (λ (x : List ℕ). key ++ (equals ∷ x)) (sym (take-append-drop (position_or_len is_separator behind) behind));
      some_key = some;
      key_spelled = spells;
      value_spelled = spelled;
      ends = next_word behind;
    }

    by_fault : (f : LineFault) → WordFault (before_first is_separator behind) f → field_at bytes ≡ Err f → FieldFault bytes f
    by_fault _ (is_float_word spelled) read = float_value (made SpellsFloat spelled)
    by_fault _ (is_unsigned_word spelled) read = unsigned_value (made SpellsUnsigned spelled)
    by_fault _ is_no_word read = none_here bytes faults.Field read refl

quoted_fault : (bytes : List ℕ) (f : LineFault) → quoted_at bytes ≡ Err f → faults.Field ≡ f
unfolding quoted_at
quoted_fault bytes f e =
    let text = text_at parts.Quoted bytes in
    chosen (begins_with quote text.1 && is_at_separator (drop 1 text.1)) (values.Str text.0, drop 1 text.1) f e
  where
    chosen : (b : Bool) (x : Value × List ℕ) (f : LineFault) → cond b (Ok x) (Err faults.Field) ≡ Err f → faults.Field ≡ f
    chosen true x f e = absurd cc
    chosen false x f e = cc

word_at_fault : (bytes : List ℕ) (f : LineFault) → word_at bytes ≡ Err f → WordFault (before_first is_separator bytes) f
unfolding word_at
word_at_fault bytes f e = by_value (word_value (before_first is_separator bytes)) refl e
  where
    by_value : (r : Result Value LineFault) → word_value (before_first is_separator bytes) ≡ r → ◌>>=◌ {B = Value × List ℕ} r (λ x. Ok (x, drop (position_or_len is_separator bytes) bytes)) ≡ Err f → WordFault (before_first is_separator bytes) f
    by_value (Ok v) read e = absurd cc
    by_value (Err d) read e = let same : d ≡ f = cc in word_fault (before_first is_separator bytes) f (read ∙ ap (λ (x : LineFault). Err x) same)

value_here : (bytes k key behind : List ℕ) (f : LineFault) → field_at bytes ≡ Err f → bytes ≡ key ++ (equals ∷ behind) → is_empty k ≡ false → Spells parts.Key k key → value_at behind ≡ Err f → FieldFault bytes f
value_here bytes k key behind f read is some spells e = by_quote (begins_with quote behind) e
  where
    by_quote : (b : Bool) → cond b (quoted_at (drop 1 behind)) (word_at behind) ≡ Err f → FieldFault bytes f
    by_quote true e = none_here bytes f read (quoted_fault (drop 1 behind) f e)
    by_quote false e = word_here bytes k key behind f read is some spells (word_at_fault behind f e)

pub field_fault : (bytes : List ℕ) (f : LineFault) → field_at bytes ≡ Err f → FieldFault bytes f
unfolding field_at
field_fault bytes f read = by_test (begins_with equals (text_at parts.Key bytes).1 && not (is_empty (text_at parts.Key bytes).0)) refl read
  where
    by_test : (b : Bool) → (begins_with equals (text_at parts.Key bytes).1 && not (is_empty (text_at parts.Key bytes).0)) ≡ b → cond b (◌>>=◌ {B = Field × List ℕ} (value_at (drop 1 (text_at parts.Key bytes).1)) (λ value. Ok (((text_at parts.Key bytes).0, value.0), value.1))) (Err faults.Field) ≡ Err f → FieldFault bytes f
    by_test false h e = none_here bytes f read (err_is {A = Field × List ℕ} faults.Field f e)
    by_test true h e =
        let k = text_at parts.Key bytes in
        let found : begins_with equals k.1 ≡ true = first_of _ (not (is_empty k.0)) h in
        let kt = text_taken parts.Key bytes (begins_some equals k.1 found) in
        value_here bytes k.0 kt.spelling (drop 1 k.1) f read
        (kt.is ∙ ap (λ (x : List ℕ). kt.spelling ++ x) (behind_first equals k.1 found))
        (not_true (is_empty k.0) (second_of (begins_with equals k.1) _ h))
        kt.spells
        (made_err {B = Field × List ℕ} (value_at (drop 1 k.1)) (λ (value : Value × List ℕ). let x : Field × List ℕ = ((k.0, value.0), value.1) in x) f e)

pub field_fault_read : (bytes : List ℕ) (f : LineFault) → FieldFault bytes f → field_at bytes ≡ Err f
field_fault_read bytes _ (float_value o) = float_again bytes o
field_fault_read bytes _ (unsigned_value o) = unsigned_again bytes o
field_fault_read bytes _ (no_field none) = by_field (field_at bytes) refl
  where
    by_form : (f : LineFault) → FieldFault bytes f → ◌≡◌ {A = Result (Field × List ℕ) LineFault} (Err f) (Err faults.Field)
    by_form _ (float_value o) = absurd (none (of_form SpellsSome bytes o (inr (inl o.value_spelled))))
    by_form _ (unsigned_value o) = absurd (none (of_form SpellsSome bytes o (inr (inr o.value_spelled))))
    by_form _ (no_field n) = refl

    by_field : (r : Result (Field × List ℕ) LineFault) → field_at bytes ≡ r → r ≡ Err faults.Field
    by_field (Err f) read = by_form f (field_fault bytes f read)
    by_field (Ok (fd, rest)) read =
        let t = field_taken bytes fd rest read in
        absurd (none (record { k = fd.0; key = t.key; value = t.value; rest = rest; is = t.is; some_key = t.some_key; key_spelled = t.key_spells; value_spelled = inl (fd.1, t.value_spells); ends = t.next }))

-- ---- the fields

-- the first field that is none stands here, or behind some fields and a comma
data BadField (f : LineFault) : List ℕ → Type 0 where
  bad_now : (bytes : List ℕ) → FieldFault bytes f → BadField f bytes
  bad_later : (fs : List Field) (fields rest : List ℕ) → SpellsFields fs fields → FieldFault rest f → BadField f (fields ++ (comma ∷ rest))

prepended : (bytes after behind : List ℕ) (fd : Field) (f : LineFault) → FieldTaken bytes fd after → after ≡ comma ∷ behind → BadField f behind → BadField f bytes
prepended bytes after behind fd f t is (bad_now _ fault) =
    subst (BadField f) (append_assoc t.key (equals ∷ t.value) (comma ∷ behind) ∙ ap (λ (x : List ℕ). t.key ++ (equals ∷ (t.value ++ x))) (sym is) ∙ sym t.is)
    (bad_later (fd ∷ []) (t.key ++ (equals ∷ t.value)) behind (one_field fd.0 fd.1 t.key t.value t.some_key t.key_spells t.value_spells) fault)
prepended bytes after _ fd f t is (bad_later fs fields rest spells fault) =
    subst (BadField f)
    (append_assoc t.key (equals ∷ (t.value ++ (comma ∷ fields))) (comma ∷ rest)
    ∙ ap (λ (x : List ℕ). t.key ++ (equals ∷ x)) (append_assoc t.value (comma ∷ fields) (comma ∷ rest))
    ∙ ap (λ (x : List ℕ). t.key ++ (equals ∷ (t.value ++ x))) (sym is)
    ∙ sym t.is)
    (bad_later (fd ∷ fs) (t.key ++ (equals ∷ (t.value ++ (comma ∷ fields)))) rest (more_fields fd.0 fd.1 t.key t.value fs fields t.some_key t.key_spells t.value_spells spells) fault)

field_shorter : (bytes after : List ℕ) (fd : Field) → FieldTaken bytes fd after → length after < length bytes
field_shorter bytes after fd t = omega (arith, ap length t.is, length-append t.key (equals ∷ (t.value ++ after)), length-append t.value after)

bad_fields : (n : ℕ) (bytes : List ℕ) (f : LineFault) → length bytes ≤ n → fields_from n bytes ≡ Err f → BadField f bytes
unfolding fields_from
bad_fields zero [] f le e = bad_now [] (field_fault [] f (no_field_read ∙ e_field f e))
  where
    e_field : (f : LineFault) → ◌≡◌ {A = Result (List Field × List ℕ) LineFault} (Err faults.Field) (Err f) → ◌≡◌ {A = Result (Field × List ℕ) LineFault} (Err faults.Field) (Err f)
    e_field f e = let same : faults.Field ≡ f = cc in ap (λ (x : LineFault). let r : Result (Field × List ℕ) LineFault = Err x in r) same
bad_fields zero (b ∷ bs) f le e = absurd (omega arith)
bad_fields (suc n) bytes f le e = by_field (λ x. bad_fields n x f) (field_at bytes) refl e
  where
    by_comma : ((x : List ℕ) → length x ≤ n → fields_from n x ≡ Err f → BadField f x) → (fd : Field) (after : List ℕ) → field_at bytes ≡ Ok (fd, after) → (b : Bool) → begins_with comma after ≡ b → with_first fd (cond b (fields_from n (drop 1 after)) (Ok ([], after))) ≡ Err f → BadField f bytes
    by_comma again fd after read false found e = absurd cc
    by_comma again fd after read true found e =
        let t = field_taken bytes fd after read in
        let more = again (drop 1 after) (omega (arith, field_shorter bytes after fd t, comma-shorter after found)) (made_err {B = List Field × List ℕ} (fields_from n (drop 1 after)) (λ (x : List Field × List ℕ). let y : List Field × List ℕ = (fd ∷ x.0, x.1) in y) f e) in
        prepended bytes after (drop 1 after) fd f t (behind_first comma after found) more

    by_field : ((x : List ℕ) → length x ≤ n → fields_from n x ≡ Err f → BadField f x) → (r : Result (Field × List ℕ) LineFault) → field_at bytes ≡ r → (r >>= λ field. with_first field.0 (fields_behind n field.1)) ≡ Err f → BadField f bytes
    by_field again (Err d) read e = let same : d ≡ f = cc in bad_now bytes (field_fault bytes f (read ∙ ap (λ (x : LineFault). Err x) same))
    by_field again (Ok (fd, after)) read e = by_comma again fd after read (begins_with comma after) refl e

-- what a fault of the fields is
pub data FieldsFault (bytes : List ℕ) : LineFault → Type 0 where
  no_fields : is_empty (without_spaces bytes) ≡ true → FieldsFault bytes faults.NoField
  bad_field : (f : LineFault) (rest : List ℕ) → FieldPlace (without_spaces bytes) rest → FieldFault rest f → FieldsFault bytes f

no_space : (bytes : List ℕ) → begins_with space (without_spaces bytes) ≡ false
no_space [] = refl
no_space (b ∷ bs) = elim (is_space b) as (λ t. is_space b ≡ t → begins_with space (cond t (without_spaces bs) (b ∷ bs)) ≡ false) [ true ↦ λ _. no_space bs | false ↦ λ t. t ] refl

placed : (bytes behind : List ℕ) (f : LineFault) → without_spaces bytes ≡ behind → is_empty behind ≡ false → begins_with space behind ≡ false → BadField f behind → FieldsFault bytes f
placed bytes behind f is some none (bad_now _ fault) = bad_field f behind (subst (λ (x : List ℕ). FieldPlace x behind) (sym is) (first_place behind some none)) fault
placed bytes _ f is some none (bad_later fs fields rest spells fault) = bad_field f rest (subst (λ (x : List ℕ). FieldPlace x rest) (sym is) (later_place fs fields rest spells)) fault

pub fields_fault : (bytes : List ℕ) (f : LineFault) → fields_at bytes ≡ Err f → FieldsFault bytes f
unfolding fields_at
fields_fault bytes f e = by_test (is_empty (without_spaces bytes)) refl e
  where
    by_test : (b : Bool) → is_empty (without_spaces bytes) ≡ b → cond b (Err faults.NoField) (◌>>=◌ {B = KeyMap Value × List ℕ} (fields_from (length (without_spaces bytes)) (without_spaces bytes)) (λ x. Ok (with_entries empty x.0, x.1))) ≡ Err f → FieldsFault bytes f
    by_test true none e = subst (FieldsFault bytes) (err_is {A = KeyMap Value × List ℕ} faults.NoField f e) (no_fields none)
    by_test false some e =
        placed bytes (without_spaces bytes) f refl some (no_space bytes)
        (bad_fields (length (without_spaces bytes)) (without_spaces bytes) f (omega arith)
        (made_err {B = KeyMap Value × List ℕ} (fields_from (length (without_spaces bytes)) (without_spaces bytes)) (λ (x : List Field × List ℕ). let y : KeyMap Value × List ℕ = (with_entries empty x.0, x.1) in y) f e))

-- ---- such fields are faulty

first_fault : (n : ℕ) (rest : List ℕ) (f : LineFault) → 1 ≤ n → field_at rest ≡ Err f → fields_from n rest ≡ Err f
unfolding fields_from
first_fault zero rest f le read = absurd (omega arith)
first_fault (suc n) rest f le read = rw read refl

over_fields : {fs : List Field} {fields : List ℕ} → SpellsFields fs fields → (n : ℕ) (rest : List ℕ) (f : LineFault) → length (fields ++ (comma ∷ rest)) ≤ n → field_at rest ≡ Err f → fields_from n (fields ++ (comma ∷ rest)) ≡ Err f
over_fields (one_field k v key value some key_spells value_spells) zero rest f le read =
    absurd (omega (arith, ap length (append_assoc key (equals ∷ value) (comma ∷ rest)), length-append key (equals ∷ (value ++ (comma ∷ rest)))))
over_fields (one_field k v key value some key_spells value_spells) (suc n) rest f le read =
    let some_left : 1 ≤ n = omega (arith, ap length (append_assoc key (equals ∷ value) (comma ∷ rest)), length-append key (equals ∷ (value ++ (comma ∷ rest))), length-append value (comma ∷ rest)) in
    ap (fields_from (suc n)) (append_assoc key (equals ∷ value) (comma ∷ rest))
    ∙ one_read n (key ++ (equals ∷ (value ++ (comma ∷ rest)))) (comma ∷ rest) (k, v) (field_again k v key value (comma ∷ rest) some key_spells value_spells refl)
    ∙ ap (with_first (k, v)) (first_fault n rest f some_left read)
over_fields (more_fields k v key value fs more some key_spells value_spells spells) zero rest f le read =
    absurd (omega (arith, ap length (append_assoc key (equals ∷ (value ++ (comma ∷ more))) (comma ∷ rest)), length-append key (equals ∷ ((value ++ (comma ∷ more)) ++ (comma ∷ rest)))))
over_fields (more_fields k v key value fs more some key_spells value_spells spells) (suc n) rest f le read =
    let behind : (key ++ (equals ∷ (value ++ (comma ∷ more)))) ++ (comma ∷ rest) ≡ key ++ (equals ∷ (value ++ (comma ∷ (more ++ (comma ∷ rest))))) =
    append_assoc key (equals ∷ (value ++ (comma ∷ more))) (comma ∷ rest) ∙ ap (λ (x : List ℕ). key ++ (equals ∷ x)) (append_assoc value (comma ∷ more) (comma ∷ rest)) in
    let shorter : length (more ++ (comma ∷ rest)) ≤ n = omega (arith, ap length behind, length-append key (equals ∷ (value ++ (comma ∷ (more ++ (comma ∷ rest))))), length-append value (comma ∷ (more ++ (comma ∷ rest)))) in
    ap (fields_from (suc n)) behind
    ∙ one_read n (key ++ (equals ∷ (value ++ (comma ∷ (more ++ (comma ∷ rest)))))) (comma ∷ (more ++ (comma ∷ rest))) (k, v) (field_again k v key value (comma ∷ (more ++ (comma ∷ rest))) some key_spells value_spells refl)
    ∙ ap (with_first (k, v)) (over_fields spells n rest f shorter read)

not_space : (bytes : List ℕ) → begins_with space bytes ≡ false → begins is_space bytes ≡ false
not_space [] h = refl
not_space (b ∷ bs) h = h

skipped_fault : (more : ℕ) (fields : List ℕ) (f : LineFault) → begins is_space fields ≡ false → is_empty fields ≡ false → fields_from (length fields) fields ≡ Err f → fields_at (space ∷ (spaces more ++ fields)) ≡ Err f
unfolding fields_at
skipped_fault more fields f none some read = rw (spaces_skipped more fields none, some, read) refl

some_length : (bytes : List ℕ) → is_empty bytes ≡ false → 1 ≤ length bytes
some_length [] some = absurd cc
some_length (b ∷ bs) some = omega arith

pub place_fault : {fields rest : List ℕ} → FieldPlace fields rest → (more : ℕ) (f : LineFault) → FieldFault rest f → fields_at (space ∷ (spaces more ++ fields)) ≡ Err f
place_fault (first_place rest some none) more f fault =
    skipped_fault more rest f (not_space rest none) some (first_fault (length rest) rest f (some_length rest some) (field_fault_read rest f fault))
place_fault (later_place fs fields rest spells) more f fault =
    skipped_fault more (fields ++ (comma ∷ rest)) f (fields_first spells (comma ∷ rest)) (fields_some spells (comma ∷ rest))
    (over_fields spells (length (fields ++ (comma ∷ rest))) rest f (omega arith) (field_fault_read rest f fault))

pub no_fields_read : (n : ℕ) → fields_at (spaces n) ≡ Err faults.NoField
unfolding fields_at
no_fields_read n = rw (only_spaces n) refl
