-- Fields that are read are spelled so, and fields that are spelled are read.
use Rattle.std.proofs.Common.{◌≡◌, ℕ, zero, suc, ◌≤◌, true, false, not, cond, ◌&&◌, List, [], ◌∷◌, ◌++◌, length, drop, Ok, refl, sym, ap, subst, ◌∙◌, append_assoc, arith}
use Rattle.std.proofs.lemmas.List.{length-append}
use Rattle.kap_base.specs.Words.{◌>>=◌}
use Rattle.kap_base.specs.Texts.{is_empty, begins_with}
use Rattle.kap_base.specs.declared.value.Value.{Value}
use Rattle.line_points.specs.declared.fault.LineFault.{LineFault}
use Rattle.line_points.specs.declared.fault.LineFault.TheVariants as faults
use Rattle.line_points.specs.declared.part.Part.TheVariants as parts
use Rattle.line_points.specs.Parts.{comma, equals, text_at, is_at_separator}
use Rattle.line_points.specs.Line.{Field, value_at, field_at, fields_from}
use Rattle.line_points.specs.Grammar.{Spells, SpellsValue, SpellsFields, one_field, more_fields}
use Rattle.kap_base.proofs.TestLaws.{first_of, second_of, not_true, ok_is, bind_ok, then_ok}
use Rattle.line_points.proofs.SpellLaws.{text_taken, spelling_again}
use Rattle.line_points.proofs.TagLaws.{begins_some, behind_first}
use Rattle.line_points.proofs.ValueLaws.{value_taken, value_again}
use Rattle.line_points.proofs.LineLaws.{with_first, more_fields as fields_behind}

-- ---- what is read is spelled so

-- the bytes begin with a spelling of the field
pub record FieldTaken (bytes : List ℕ) (f : Field) (rest : List ℕ) : Type 0 where
  pub key : List ℕ
  pub value : List ℕ
  pub is : bytes ≡ key ++ (equals ∷ (value ++ rest))
  pub some_key : is_empty f.0 ≡ false
  pub key_spells : Spells parts.Key f.0 key
  pub value_spells : SpellsValue f.1 value
  pub next : is_at_separator rest ≡ true

pub field_taken : (bytes : List ℕ) (f : Field) (rest : List ℕ) → field_at bytes ≡ Ok (f, rest) → FieldTaken bytes f rest
unfolding field_at
field_taken bytes f rest e =
    let k = text_at parts.Key bytes in
    let g = then_ok (begins_with equals k.1 && not (is_empty k.0)) faults.Field (value_at (drop 1 k.1) >>= λ value. Ok ((k.0, value.0), value.1)) (f, rest) e in
    let v = bind_ok (value_at (drop 1 k.1)) (λ value. Ok ((k.0, value.0), value.1)) (f, rest) g.1 in
    let found : begins_with equals k.1 ≡ true = first_of _ (not (is_empty k.0)) g.0 in
    let kt = text_taken parts.Key bytes (begins_some equals k.1 found) in
    let vt = value_taken (drop 1 k.1) v.0.0 v.0.1 v.1 in
    let made : FieldTaken bytes (k.0, v.0.0) v.0.1 = record {
      key = kt.spelling;
      value = vt.front;
      is = kt.is ∙ ap (λ (x : List ℕ). kt.spelling ++ x) (behind_first equals k.1 found ∙ ap (λ (x : List ℕ). equals ∷ x) vt.is);
      some_key = not_true (is_empty k.0) (second_of (begins_with equals k.1) _ g.0);
      key_spells = kt.spells;
      value_spells = vt.spells;
      next = vt.next;
    } in
    subst (λ (x : Field × List ℕ). FieldTaken bytes x.0 x.1) (ok_is {E = LineFault} ((k.0, v.0.0), v.0.1) (f, rest) v.2) made

-- the bytes begin with a spelling of the fields, and no field follows
pub record FieldsTaken (bytes : List ℕ) (fields : List Field) (rest : List ℕ) : Type 0 where
  pub front : List ℕ
  pub is : bytes ≡ front ++ rest
  pub spells : SpellsFields fields front
  pub next : is_at_separator rest ≡ true
  pub none : begins_with comma rest ≡ false

last_one : (bytes rest : List ℕ) (f : Field) → begins_with comma rest ≡ false → FieldTaken bytes f rest → FieldsTaken bytes (f ∷ []) rest
last_one bytes rest f none t = record {
  front = t.key ++ (equals ∷ t.value);
  is = t.is ∙ sym (append_assoc t.key (equals ∷ t.value) rest);
  spells = one_field f.0 f.1 t.key t.value t.some_key t.key_spells t.value_spells;
  next = t.next;
  none = none;
}

one_more : (bytes after rest : List ℕ) (f : Field) (fs : List Field) → begins_with comma after ≡ true → FieldTaken bytes f after → FieldsTaken (drop 1 after) fs rest → FieldsTaken bytes (f ∷ fs) rest
one_more bytes after rest f fs found t ts = record {
  front = t.key ++ (equals ∷ (t.value ++ (comma ∷ ts.front)));
  is =
      t.is
      ∙ ap (λ (x : List ℕ). t.key ++ (equals ∷ (t.value ++ x))) (behind_first comma after found ∙ ap (λ (x : List ℕ). comma ∷ x) ts.is)
      ∙ ap (λ (x : List ℕ). t.key ++ (equals ∷ x)) (sym (append_assoc t.value (comma ∷ ts.front) rest))
      ∙ sym (append_assoc t.key (equals ∷ (t.value ++ (comma ∷ ts.front))) rest);
  spells = more_fields f.0 f.1 t.key t.value fs ts.front t.some_key t.key_spells t.value_spells ts.spells;
  next = ts.next;
  none = ts.none;
}

pub fields_taken : (n : ℕ) (bytes : List ℕ) (fields : List Field) (rest : List ℕ) → fields_from n bytes ≡ Ok (fields, rest) → FieldsTaken bytes fields rest
unfolding fields_from
fields_taken zero bytes fields rest e = absurd cc
fields_taken (suc n) bytes fields rest e =
    let f = bind_ok (field_at bytes) (λ field. with_first field.0 (fields_behind n field.1)) (fields, rest) e in
    let t = field_taken bytes f.0.0 f.0.1 f.1 in
    let fs = bind_ok (fields_behind n f.0.1) (λ x. Ok (f.0.0 ∷ x.0, x.1)) (fields, rest) f.2 in
    subst (λ (x : List Field × List ℕ). FieldsTaken bytes x.0 x.1) (ok_is {E = LineFault} (f.0.0 ∷ fs.0.0, fs.0.1) (fields, rest) fs.2)
    (elim (begins_with comma f.0.1) as (λ b. begins_with comma f.0.1 ≡ b → cond b (fields_from n (drop 1 f.0.1)) (Ok ([], f.0.1)) ≡ Ok fs.0 → FieldsTaken bytes (f.0.0 ∷ fs.0.0) fs.0.1) [
      | true ↦ λ found e. one_more bytes f.0.1 fs.0.1 f.0.0 fs.0.0 found t (fields_taken n (drop 1 f.0.1) fs.0.0 fs.0.1 e)
      | false ↦ λ none e. subst (λ (x : List Field × List ℕ). FieldsTaken bytes (f.0.0 ∷ x.0) x.1) (ok_is {E = LineFault} ([], f.0.1) fs.0 e) (last_one bytes f.0.1 f.0.0 none t)
    ] refl fs.1)

-- ---- what is spelled is read

pub field_again : (k : List ℕ) (v : Value) (key value rest : List ℕ) → is_empty k ≡ false → Spells parts.Key k key → SpellsValue v value → is_at_separator rest ≡ true → field_at (key ++ (equals ∷ (value ++ rest))) ≡ Ok ((k, v), rest)
unfolding field_at
field_again k v key value rest some key_spells value_spells next =
    rw (spelling_again key_spells (equals ∷ (value ++ rest)) refl, some, value_again value_spells rest next) refl

pub one_read : (n : ℕ) (bytes after : List ℕ) (f : Field) → field_at bytes ≡ Ok (f, after) → fields_from (suc n) bytes ≡ with_first f (fields_behind n after)
unfolding fields_from
one_read n bytes after f read = rw read refl

fields_end : (n : ℕ) (rest : List ℕ) → begins_with comma rest ≡ false → fields_behind n rest ≡ Ok ([], rest)
fields_end n rest none = rw none refl

pub fields_again : {fields : List Field} {front : List ℕ} → SpellsFields fields front → (n : ℕ) (rest : List ℕ) → length (front ++ rest) ≤ n → is_at_separator rest ≡ true → begins_with comma rest ≡ false → fields_from n (front ++ rest) ≡ Ok (fields, rest)
fields_again (one_field k v key value some key_spells value_spells) zero rest le next none =
    absurd (omega (arith, ap length (append_assoc key (equals ∷ value) rest), length-append key (equals ∷ (value ++ rest))))
fields_again (one_field k v key value some key_spells value_spells) (suc n) rest le next none =
    ap (fields_from (suc n)) (append_assoc key (equals ∷ value) rest)
    ∙ one_read n (key ++ (equals ∷ (value ++ rest))) rest (k, v) (field_again k v key value rest some key_spells value_spells next)
    ∙ ap (with_first (k, v)) (fields_end n rest none)
fields_again (more_fields k v key value fs more some key_spells value_spells spells) zero rest le next none =
    absurd (omega (arith, ap length (append_assoc key (equals ∷ (value ++ (comma ∷ more))) rest), length-append key (equals ∷ ((value ++ (comma ∷ more)) ++ rest))))
fields_again (more_fields k v key value fs more some key_spells value_spells spells) (suc n) rest le next none =
    let behind : (key ++ (equals ∷ (value ++ (comma ∷ more)))) ++ rest ≡ key ++ (equals ∷ (value ++ (comma ∷ (more ++ rest)))) =
    append_assoc key (equals ∷ (value ++ (comma ∷ more))) rest ∙ ap (λ (x : List ℕ). key ++ (equals ∷ x)) (append_assoc value (comma ∷ more) rest) in
    let shorter : length (more ++ rest) ≤ n = omega (arith, ap length behind, length-append key (equals ∷ (value ++ (comma ∷ (more ++ rest)))), length-append value (comma ∷ (more ++ rest))) in
    ap (fields_from (suc n)) behind
    ∙ one_read n (key ++ (equals ∷ (value ++ (comma ∷ (more ++ rest))))) (comma ∷ (more ++ rest)) (k, v) (field_again k v key value (comma ∷ (more ++ rest)) some key_spells value_spells refl)
    ∙ ap (with_first (k, v)) (fields_again spells n rest shorter next none)
