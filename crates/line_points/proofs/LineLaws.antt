-- Reading tags and fields one after the other, as the loops do.
use Rattle.std.proofs.Common.{◌≡◌, ℕ, zero, suc, ◌<◌, ◌≤◌, true, false, cond, List, [], ◌∷◌, ◌++◌, length, drop, Ok, Err, refl, sym, ap, ◌∙◌, append_assoc, arith}
use Rattle.std.specs.Prelude.{Result}
use Rattle.std.proofs.lemmas.List.{append-nil}
use Rattle.kap_base.specs.Words.{◌>>=◌}
use Rattle.kap_base.specs.Texts.{begins_with}
use Rattle.line_points.specs.declared.fault.LineFault.{LineFault}
use Rattle.line_points.specs.declared.fault.LineFault.TheVariants as faults
use Rattle.line_points.specs.Parts.{comma, text_from}
use Rattle.line_points.specs.Line.{Tag, Field, tag_at, tags_from, field_at, fields_from}

-- what was read before, and what is still read
abbrev pub onto : {A : Type 0} → List A → Result (List A × List ℕ) LineFault → Result (List A × List ℕ) LineFault
onto front read = read >>= λ x. Ok (front ++ x.0, x.1)

-- one more item in front
abbrev pub with_first : {A : Type 0} → A → Result (List A × List ℕ) LineFault → Result (List A × List ℕ) LineFault
with_first a read = read >>= λ x. Ok (a ∷ x.0, x.1)

regroup : {A : Type 0} (front : List A) (a : A) (read : Result (List A × List ℕ) LineFault) → onto front (with_first a read) ≡ onto (front ++ a ∷ []) read
regroup {A} front a (Ok x) = ap (λ (xs : List A). Ok (xs, x.1)) (simp append_assoc)
regroup front a (Err e) = refl

-- the tags in the rest of a line complete those that are read
pub record TagsLeft (done : List Tag) (rest : List ℕ) (total : Result (List Tag × List ℕ) LineFault) : Type 0 where
  pub fuel : ℕ
  pub enough : length rest ≤ fuel
  pub same : onto done (tags_from fuel rest) ≡ total

record Opened (done : List Tag) (rest : List ℕ) (total : Result (List Tag × List ℕ) LineFault) : Type 0 where
  left : ℕ
  enough : length rest ≤ suc left
  same : onto done (tag_at (drop 1 rest) >>= λ tag. with_first tag.0 (tags_from left tag.1)) ≡ total

opened : (n : ℕ) (done : List Tag) (rest : List ℕ) (total : Result (List Tag × List ℕ) LineFault) → length rest ≤ n → begins_with comma rest ≡ true → onto done (tags_from n rest) ≡ total → Opened done rest total
unfolding tags_from
opened n done [] total le found same = absurd cc
opened zero done (b ∷ bs) total le found same = absurd (omega arith)
opened (suc n) done (b ∷ bs) total le found same = record { left = n; enough = le; same = rw found at same }

pub tags-next : (done : List Tag) (rest : List ℕ) (total : Result (List Tag × List ℕ) LineFault) (t : Tag) (after : List ℕ) → TagsLeft done rest total → begins_with comma rest ≡ true → tag_at (drop 1 rest) ≡ Ok (t, after) → length after < length rest → TagsLeft (done ++ t ∷ []) after total
tags-next done rest total t after left found read shorter =
    let o = opened left.fuel done rest total left.enough found left.same in
    record { fuel = o.left; enough = omega (arith, o.enough); same = sym (regroup done t (tags_from o.left after)) ∙ (rw read at o.same) }

pub tags-fail : (done : List Tag) (rest : List ℕ) (total : Result (List Tag × List ℕ) LineFault) (e : LineFault) → TagsLeft done rest total → begins_with comma rest ≡ true → tag_at (drop 1 rest) ≡ Err e → total ≡ Err e
tags-fail done rest total e left found read =
    let o = opened left.fuel done rest total left.enough found left.same in sym (rw read at o.same)

pub ended : (n : ℕ) (rest : List ℕ) → begins_with comma rest ≡ false → tags_from n rest ≡ Ok ([], rest)
unfolding tags_from
ended zero rest none = refl
ended (suc n) rest none = rw none refl

pub tags-end : (done : List Tag) (rest : List ℕ) (total : Result (List Tag × List ℕ) LineFault) → TagsLeft done rest total → begins_with comma rest ≡ false → total ≡ Ok (done, rest)
tags-end done rest total left none = sym (rw (ended left.fuel rest none, append-nil) at left.same)

-- ---- fields

-- the fields in the rest of a line complete those that are read
pub record FieldsLeft (done : List Field) (rest : List ℕ) (total : Result (List Field × List ℕ) LineFault) : Type 0 where
  pub fuel : ℕ
  pub enough : length rest ≤ fuel
  pub same : onto done (fields_from fuel rest) ≡ total

abbrev pub more_fields : ℕ → List ℕ → Result (List Field × List ℕ) LineFault
more_fields n rest = cond (begins_with comma rest) (fields_from n (drop 1 rest)) (Ok ([], rest))

record Begun (done : List Field) (rest : List ℕ) (total : Result (List Field × List ℕ) LineFault) : Type 0 where
  left : ℕ
  enough : length rest ≤ suc left
  same : onto done (field_at rest >>= λ field. with_first field.0 (more_fields left field.1)) ≡ total

pub no_field : field_at [] ≡ Err faults.Field
unfolding field_at text_from
no_field = refl

begun : (n : ℕ) (done : List Field) (rest : List ℕ) (total : Result (List Field × List ℕ) LineFault) → length rest ≤ n → onto done (fields_from n rest) ≡ total → Begun done rest total
unfolding fields_from
begun zero done [] total le same = record { left = zero; enough = omega arith; same = rw no_field same }
begun zero done (b ∷ bs) total le same = absurd (omega arith)
begun (suc n) done rest total le same = record { left = n; enough = le; same = same }

pub comma-shorter : (bytes : List ℕ) → begins_with comma bytes ≡ true → length (drop 1 bytes) < length bytes
comma-shorter [] found = absurd cc
comma-shorter (b ∷ bs) found = omega arith

pub fields-next : (done : List Field) (rest : List ℕ) (total : Result (List Field × List ℕ) LineFault) (f : Field) (after : List ℕ) → FieldsLeft done rest total → field_at rest ≡ Ok (f, after) → length after ≤ length rest → begins_with comma after ≡ true → FieldsLeft (done ++ f ∷ []) (drop 1 after) total
fields-next done rest total f after left read shorter found =
    let less = comma-shorter after found in
    let o = begun left.fuel done rest total left.enough left.same in
    record { fuel = o.left; enough = omega (arith, o.enough); same = sym (regroup done f (fields_from o.left (drop 1 after))) ∙ (rw (read, found) at o.same) }

pub fields-end : (done : List Field) (rest : List ℕ) (total : Result (List Field × List ℕ) LineFault) (f : Field) (after : List ℕ) → FieldsLeft done rest total → field_at rest ≡ Ok (f, after) → begins_with comma after ≡ false → total ≡ Ok (done ++ f ∷ [], after)
fields-end done rest total f after left read none =
    let o = begun left.fuel done rest total left.enough left.same in sym (rw (read, none) at o.same)

pub fields-fail : (done : List Field) (rest : List ℕ) (total : Result (List Field × List ℕ) LineFault) (e : LineFault) → FieldsLeft done rest total → field_at rest ≡ Err e → total ≡ Err e
fields-fail done rest total e left read =
    let o = begun left.fuel done rest total left.enough left.same in sym (rw read at o.same)
