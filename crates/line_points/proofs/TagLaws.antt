-- Tags that are read are spelled so, and tags that are spelled are read, also where the line ends behind them.
use Rattle.std.proofs.Common.{◌≡◌, ℕ, zero, suc, ◌<◌, ◌≤◌, true, false, not, cond, ◌&&◌, List, [], ◌∷◌, ◌++◌, length, drop, Ok, Err, refl, sym, ap, subst, ◌∙◌, append_assoc, arith}
use Rattle.std.specs.Prelude.{Result}
use Rattle.std.specs.FinMap.{empty}
use Rattle.std.proofs.lemmas.List.{append-nil, length-append}
use Rattle.std.proofs.lemmas.Bool.Decides.{nat_tests}
use Rattle.kap_base.specs.Words.{◌>>=◌}
use Rattle.kap_base.specs.Texts.{is_empty, begins_with}
use Rattle.kap_base.specs.Maps.{KeyMap, with_entries}
use Rattle.line_points.specs.declared.fault.LineFault.{LineFault}
use Rattle.line_points.specs.declared.fault.LineFault.TheVariants as faults
use Rattle.line_points.specs.declared.part.Part.TheVariants as parts
use Rattle.line_points.specs.Parts.{comma, equals, text_at, is_at_separator}
use Rattle.line_points.specs.Line.{Tag, differ, tag_at, tags_from, tags_at}
use Rattle.line_points.specs.Grammar.{Spells, SpellsTags, no_tags, more_tags}
use Rattle.line_points.specs.FaultRows.{SpellsBefore, TagsBefore, no_tag_before, tag_before, NewTag}
use Rattle.kap_base.proofs.TestLaws.{first_of, second_of, not_true, ok_is, bind_ok, guard_ok, then_ok}
use Rattle.line_points.proofs.SpellLaws.{ends_here, text_read, text_again, text_taken, spelling_again, whole, before}
use Rattle.line_points.proofs.LineLaws.{onto, with_first, ended, comma-shorter}

pub no_equals : (rest : List ℕ) → is_at_separator rest ≡ true → begins_with equals rest ≡ false
no_equals [] h = refl
no_equals (b ∷ bs) h = grind (arith, nat_tests)

pub next_here : (rest : List ℕ) → is_at_separator rest ≡ true → ends_here parts.Key rest ≡ true
next_here [] h = refl
next_here (b ∷ bs) h = grind (arith, nat_tests)

pub here_next : (rest : List ℕ) → ends_here parts.Key rest ≡ true → begins_with equals rest ≡ false → is_at_separator rest ≡ true
here_next [] h none = refl
here_next (b ∷ bs) h none = grind (arith, nat_tests)

pub begins_some : (b : ℕ) (bytes : List ℕ) → begins_with b bytes ≡ true → is_empty bytes ≡ false
begins_some b [] h = absurd cc
begins_some b (x ∷ bytes) h = refl

pub behind_first : (b : ℕ) (bytes : List ℕ) → begins_with b bytes ≡ true → bytes ≡ b ∷ drop 1 bytes
behind_first b [] h = absurd cc
behind_first b (x ∷ bytes) h = let same : x ≡ b = grind (arith, nat_tests) in ap (λ (y : ℕ). y ∷ bytes) same

pub some_behind : (xs ys : List ℕ) → is_empty ys ≡ false → is_empty (xs ++ ys) ≡ false
some_behind [] ys some = some
some_behind (x ∷ xs) ys some = refl

-- ---- one tag

-- the bytes begin with a spelling of the tag
pub record TagRead (bytes : List ℕ) (tag : Tag) (rest : List ℕ) : Type 0 where
  pub key : List ℕ
  pub value : List ℕ
  pub is : bytes ≡ key ++ (equals ∷ (value ++ rest))
  pub some_key : is_empty tag.0 ≡ false
  pub some_value : is_empty tag.1 ≡ false
  pub key_spells : Spells parts.Key tag.0 key
  pub value_spells : SpellsBefore parts.Key rest tag.1 value
  pub next : is_at_separator rest ≡ true

pub tag_read : (bytes : List ℕ) (tag : Tag) (rest : List ℕ) → tag_at bytes ≡ Ok (tag, rest) → TagRead bytes tag rest
unfolding tag_at
tag_read bytes tag rest e =
    let k = text_at parts.Key bytes in
    let v = text_at parts.Key (drop 1 k.1) in
    let g = guard_ok (begins_with equals k.1 && not (is_empty k.0) && not (is_empty v.0) && not (begins_with equals v.1)) faults.Tag ((k.0, v.0), v.1) (tag, rest) e in
    let three : (begins_with equals k.1 && not (is_empty k.0) && not (is_empty v.0)) ≡ true = first_of _ (not (begins_with equals v.1)) g.0 in
    let two : (begins_with equals k.1 && not (is_empty k.0)) ≡ true = first_of _ (not (is_empty v.0)) three in
    let found : begins_with equals k.1 ≡ true = first_of _ (not (is_empty k.0)) two in
    let kt = text_taken parts.Key bytes (begins_some equals k.1 found) in
    let vt = text_read parts.Key (drop 1 k.1) in
    let made : TagRead bytes (k.0, v.0) v.1 = record {
      key = kt.spelling;
      value = vt.spelling;
      is = kt.is ∙ ap (λ (x : List ℕ). kt.spelling ++ x) (behind_first equals k.1 found ∙ ap (λ (x : List ℕ). equals ∷ x) vt.is);
      some_key = not_true (is_empty k.0) (second_of (begins_with equals k.1) _ two);
      some_value = not_true (is_empty v.0) (second_of (begins_with equals k.1 && not (is_empty k.0)) _ three);
      key_spells = kt.spells;
      value_spells = vt.spells;
      next = here_next v.1 vt.here (not_true (begins_with equals v.1) (second_of (begins_with equals k.1 && not (is_empty k.0) && not (is_empty v.0)) _ g.0));
    } in
    subst (λ (x : Tag × List ℕ). TagRead bytes x.0 x.1) g.1 made

pub tag_again : (k v key value rest : List ℕ) → is_empty k ≡ false → is_empty v ≡ false → Spells parts.Key k key → SpellsBefore parts.Key rest v value → is_at_separator rest ≡ true → tag_at (key ++ (equals ∷ (value ++ rest))) ≡ Ok ((k, v), rest)
unfolding tag_at
tag_again k v key value rest some_key some_value key_spells value_spells next =
    let key_is = spelling_again key_spells (equals ∷ (value ++ rest)) refl in
    let value_is = text_again value_spells (next_here rest next) in
    rw (key_is, value_is, some_key, some_value, no_equals rest next) refl

pub new_again : (ts : List Tag) (bytes : List ℕ) → (t : NewTag ts bytes) → tag_at bytes ≡ Ok ((t.k, t.v), t.rest)
new_again ts bytes t = ap tag_at t.is ∙ tag_again t.k t.v t.key t.value t.rest t.some_key t.some_value t.key_spelled t.value_spelled t.ends

pub tag_shorter : (bytes rest : List ℕ) (tag : Tag) → TagRead bytes tag rest → length rest < length bytes
tag_shorter bytes rest tag t = omega (arith, ap length t.is, length-append t.key (equals ∷ (t.value ++ rest)), length-append t.value rest)

-- ---- all tags

-- the bytes begin with a spelling of the tags, and no tag follows
pub record TagsRead (bytes : List ℕ) (tags : List Tag) (rest : List ℕ) : Type 0 where
  pub front : List ℕ
  pub is : bytes ≡ front ++ rest
  pub spells : TagsBefore rest tags front
  pub next : is_at_separator bytes ≡ true → is_at_separator rest ≡ true
  pub none : begins_with comma rest ≡ false

pub regrouped : (bytes key value after front rest : List ℕ) → begins_with comma bytes ≡ true → drop 1 bytes ≡ key ++ (equals ∷ (value ++ after)) → after ≡ front ++ rest → bytes ≡ (comma ∷ (key ++ (equals ∷ (value ++ front)))) ++ rest
regrouped bytes key value after front rest found is behind_is =
    behind_first comma bytes found
    ∙ ap (λ (x : List ℕ). comma ∷ x) (is
    ∙ ap (λ (x : List ℕ). key ++ (equals ∷ (value ++ x))) behind_is
    ∙ ap (λ (x : List ℕ). key ++ (equals ∷ x)) (sym (append_assoc value front rest))
    ∙ sym (append_assoc key (equals ∷ (value ++ front)) rest))

one_more : (bytes after rest : List ℕ) (tag : Tag) (tags : List Tag) → begins_with comma bytes ≡ true → TagRead (drop 1 bytes) tag after → TagsRead after tags rest → TagsRead bytes (tag ∷ tags) rest
one_more bytes after rest tag tags found t ts =
    record {
      front = comma ∷ (t.key ++ (equals ∷ (t.value ++ ts.front)));
      is = regrouped bytes t.key t.value after ts.front rest found t.is ts.is;
      spells = tag_before tag.0 tag.1 t.key t.value tags ts.front t.some_key t.some_value t.key_spells (subst (λ (x : List ℕ). SpellsBefore parts.Key x tag.1 t.value) ts.is t.value_spells) ts.spells;
      next = λ _. ts.next t.next;
      none = ts.none;
    }

pub tags_read : (n : ℕ) (bytes : List ℕ) (tags : List Tag) (rest : List ℕ) → length bytes ≤ n → tags_from n bytes ≡ Ok (tags, rest) → TagsRead bytes tags rest
unfolding tags_from
tags_read zero [] tags rest le e =
    let made : TagsRead [] [] [] = record { front = []; is = refl; spells = no_tag_before; next = λ h. h; none = refl } in
    subst (λ (x : List Tag × List ℕ). TagsRead [] x.0 x.1) (ok_is {E = LineFault} ([], []) (tags, rest) e) made
tags_read zero (b ∷ bs) tags rest le e = absurd (omega arith)
tags_read (suc n) bytes tags rest le e =
    elim (begins_with comma bytes) as (λ b. begins_with comma bytes ≡ b → cond b (tag_at (drop 1 bytes) >>= λ tag. with_first tag.0 (tags_from n tag.1)) (Ok ([], bytes)) ≡ Ok (tags, rest) → TagsRead bytes tags rest) [
      | false ↦ λ none e.
          let made : TagsRead bytes [] bytes = record { front = []; is = refl; spells = no_tag_before; next = λ h. h; none = none } in
          subst (λ (x : List Tag × List ℕ). TagsRead bytes x.0 x.1) (ok_is {E = LineFault} ([], bytes) (tags, rest) e) made
      | true ↦ λ found e.
          let t = bind_ok (tag_at (drop 1 bytes)) (λ tag. with_first tag.0 (tags_from n tag.1)) (tags, rest) e in
          let ts = bind_ok (tags_from n t.0.1) (λ x. Ok (t.0.0 ∷ x.0, x.1)) (tags, rest) t.2 in
          let tag = tag_read (drop 1 bytes) t.0.0 t.0.1 t.1 in
          let more = tags_read n t.0.1 ts.0.0 ts.0.1 (omega (arith, tag_shorter (drop 1 bytes) t.0.1 t.0.0 tag, comma-shorter bytes found)) ts.1 in
          subst (λ (x : List Tag × List ℕ). TagsRead bytes x.0 x.1) (ok_is {E = LineFault} (t.0.0 ∷ ts.0.0, ts.0.1) (tags, rest) ts.2) (one_more bytes t.0.1 ts.0.1 t.0.0 ts.0.0 found tag more)
    ] refl e

-- behind a spelling of tags a comma, a space or nothing comes next, where it does so behind them
pub next-before : {rest : List ℕ} {tags : List Tag} {front : List ℕ} → TagsBefore rest tags front → is_at_separator rest ≡ true → is_at_separator (front ++ rest) ≡ true
next-before no_tag_before next = next
next-before (tag_before k v key value ts more some_key some_value key_spells value_spells spells) next = refl

one_tag : (n : ℕ) (more rest : List ℕ) (tag : Tag) → tag_at more ≡ Ok (tag, rest) → tags_from (suc n) (comma ∷ more) ≡ with_first tag (tags_from n rest)
unfolding tags_from
one_tag n more rest tag read = rw read refl

-- the tags in front are read
pub record OverTags (ts : List Tag) (n : ℕ) (bytes rest : List ℕ) : Type 0 where
  pub left : ℕ
  pub enough : length rest ≤ left
  pub same : tags_from n bytes ≡ onto ts (tags_from left rest)

none_onto : (read : Result (List Tag × List ℕ) LineFault) → read ≡ onto [] read
none_onto (Ok x) = refl
none_onto (Err f) = refl

first_onto : (t : Tag) (ts : List Tag) (read : Result (List Tag × List ℕ) LineFault) → with_first t (onto ts read) ≡ onto (t ∷ ts) read
first_onto t ts (Ok x) = refl
first_onto t ts (Err f) = refl

pub over_tags : {rest : List ℕ} {tags : List Tag} {front : List ℕ} → TagsBefore rest tags front → (n : ℕ) → length (front ++ rest) ≤ n → is_at_separator rest ≡ true → OverTags tags n (front ++ rest) rest
over_tags {rest} no_tag_before n le next = record { left = n; enough = le; same = none_onto (tags_from n rest) }
over_tags {rest} (tag_before k v key value ts more some_key some_value key_spells value_spells spells) zero le next = absurd (omega arith)
over_tags {rest} (tag_before k v key value ts more some_key some_value key_spells value_spells spells) (suc n) le next =
    let behind : (key ++ (equals ∷ (value ++ more))) ++ rest ≡ key ++ (equals ∷ (value ++ (more ++ rest))) =
    append_assoc key (equals ∷ (value ++ more)) rest ∙ ap (λ (x : List ℕ). key ++ (equals ∷ x)) (append_assoc value more rest) in
    let shorter : length (more ++ rest) ≤ n = omega (arith, ap length behind, length-append key (equals ∷ (value ++ (more ++ rest))), length-append value (more ++ rest)) in
    let read = tag_again k v key value (more ++ rest) some_key some_value key_spells value_spells (next-before spells next) in
    let o = over_tags spells n shorter next in
    record {
      left = o.left;
      enough = o.enough;
      same =
          ap (λ (x : List ℕ). tags_from (suc n) (comma ∷ x)) behind
          ∙ one_tag n (key ++ (equals ∷ (value ++ (more ++ rest)))) (more ++ rest) (k, v) read
          ∙ ap (with_first (k, v)) o.same
          ∙ first_onto (k, v) ts (tags_from o.left rest);
    }

-- ---- the map of the tags

-- the bytes begin with a spelling of tags under different keys, of which the map is made
pub record TagMapRead (bytes : List ℕ) (tags : KeyMap (List ℕ)) (rest : List ℕ) : Type 0 where
  pub ts : List Tag
  pub are : tags ≡ with_entries empty ts
  pub apart : differ ts ≡ true
  pub read : TagsRead bytes ts rest

pub tag_map_read : (bytes : List ℕ) (tags : KeyMap (List ℕ)) (rest : List ℕ) → tags_at bytes ≡ Ok (tags, rest) → TagMapRead bytes tags rest
unfolding tags_at
tag_map_read bytes tags rest e =
    let t = bind_ok (tags_from (length bytes) bytes) (λ x. cond (differ x.0) (Ok (with_entries empty x.0, x.1)) (Err faults.Tag)) (tags, rest) e in
    let g = then_ok (differ t.0.0) faults.Tag (Ok (with_entries empty t.0.0, t.0.1)) (tags, rest) t.2 in
    let made : TagMapRead bytes (with_entries empty t.0.0) t.0.1 = record { ts = t.0.0; are = refl; apart = g.0; read = tags_read (length bytes) bytes t.0.0 t.0.1 (omega arith) t.1 } in
    subst (λ (x : KeyMap (List ℕ) × List ℕ). TagMapRead bytes x.0 x.1) (ok_is {E = LineFault} (with_entries empty t.0.0, t.0.1) (tags, rest) g.1) made

pub tags_up_to : (tags rest : List ℕ) (ts : List Tag) → TagsBefore rest ts tags → differ ts ≡ true → is_at_separator rest ≡ true → begins_with comma rest ≡ false → tags_at (tags ++ rest) ≡ Ok (with_entries empty ts, rest)
unfolding tags_at
tags_up_to tags rest ts spells apart next none =
    let o = over_tags spells (length (tags ++ rest)) (omega arith) next in
    let read : tags_from (length (tags ++ rest)) (tags ++ rest) ≡ Ok (ts, rest) = o.same ∙ ap (onto ts) (ended o.left rest none) ∙ ap (λ (x : List Tag). let y : Result (List Tag × List ℕ) LineFault = Ok (x, rest) in y) (append-nil ts) in
    rw (read, apart) refl

-- what is spelled before more of the line is spelled whatever follows, and the other way round
pub tags_whole : {rest : List ℕ} {ts : List Tag} {front : List ℕ} → TagsBefore rest ts front → is_at_separator rest ≡ true → is_empty rest ≡ false → SpellsTags ts front
tags_whole no_tag_before next some = no_tags
tags_whole {rest} (tag_before k v key value ts more some_key some_value key_spells value_spells spells) next some =
    more_tags k v key value ts more some_key some_value key_spells (whole value_spells (next_here (more ++ rest) (next-before spells next)) (some_behind more rest some)) (tags_whole spells next some)

pub tags_before : {ts : List Tag} {front : List ℕ} → SpellsTags ts front → (rest : List ℕ) → TagsBefore rest ts front
tags_before no_tags rest = no_tag_before
tags_before (more_tags k v key value ts more some_key some_value key_spells value_spells spells) rest =
    tag_before k v key value ts more some_key some_value key_spells (before value_spells (more ++ rest)) (tags_before spells rest)
