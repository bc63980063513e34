-- Which action stands between braces, by its form.
use Rattle.std.proofs.Common.{◌≡◌, ℕ, zero, suc, ◌+◌, ◌<◌, Bool, true, false, cond, not, List, [], ◌∷◌, ◌++◌, length, take, drop, Option, Some, None, Result, Ok, Err, refl, sym, ap, subst, ◌∙◌, append_assoc, arith, ◌&&◌, ◌⊎◌, inl, inr}
use Rattle.std.specs.Prelude.{bytes_eq, codes, ◌==◌, nat_lt, ◌↔◌}
use Rattle.std.specs.List.{list_all, before_first, after_first, position_or_len, prefix_len}
use Rattle.std.specs.Option.{option_map_or}
use Rattle.std.proofs.Math.Seq.{take-append_seam, drop-append_seam}
use Rattle.std.proofs.lemmas.Bool.{eqb-true, lt-ltb}
use Rattle.std.proofs.lemmas.List.{length-append, take-append-drop}
use Rattle.kap_base.proofs.TestLaws.{both, first_of, guard_ok, ok_is, second_of}
use Rattle.msg_template.specs.declared.action.Action.{Action}
use Rattle.msg_template.specs.declared.action.Action.TheVariants as actions
use Rattle.msg_template.specs.declared.fault.TemplateFault.{TemplateFault}
use Rattle.msg_template.specs.declared.fault.TemplateFault.TheVariants as faults
use Rattle.msg_template.specs.Actions.{action_at, action_of_words, are_spaces, cut_at_quote, dotted, ends_name, indexed, is_allowed, is_identifier, is_name_byte, is_quote, listed, named, of_key, without_spaces}
use Rattle.msg_template.specs.Spellings.{SpellsName, IsAction, IsUnlisted, IsOfOtherForm, action_spelling, has_no_quote, is_plain, keyed, spaces}
use Rattle.msg_template.proofs.SpellLaws.{all_spaces, keyed_more, named_text, spaced, spells_action}

-- ---- spaces

are_spaces_of : (n : ℕ) → are_spaces (spaces n) ≡ true
are_spaces_of zero = refl
are_spaces_of (suc n) = are_spaces_of n

without_spaces_of : (n : ℕ) (rest : List ℕ) → without_spaces (spaces n ++ rest) ≡ without_spaces rest
without_spaces_of zero rest = refl
without_spaces_of (suc n) rest = without_spaces_of n rest

-- ---- the first byte that passes a test

-- the bytes before it don't
before_fail : (q : ℕ → Bool) (xs : List ℕ) → list_all q (take (prefix_len q xs) xs) ≡ true
before_fail q [] = refl
before_fail q (x ∷ xs) = go (before_fail q xs) (q x) refl
  where
    go : list_all q (take (prefix_len q xs) xs) ≡ true → (t : Bool) → q x ≡ t → list_all q (take (cond t (1 + prefix_len q xs) 0) (x ∷ xs)) ≡ true
    go more true e =
        let one : 1 + prefix_len q xs ≡ suc (prefix_len q xs) = omega arith in
        ap (λ (n : ℕ). list_all q (take n (x ∷ xs))) one ∙ both (q x) (list_all q (take (prefix_len q xs) xs)) e more
    go more false e = refl

-- and so it is the first one behind such bytes
first_behind : (q : ℕ → Bool) (front rest : List ℕ) → list_all q front ≡ true → prefix_len q rest ≡ 0 → prefix_len q (front ++ rest) ≡ length front
first_behind q [] rest all stop = stop
first_behind q (x ∷ front) rest all stop =
    let one : q x ≡ true = first_of (q x) (list_all q front) all in
    let more : prefix_len q (front ++ rest) ≡ length front = first_behind q front rest (second_of (q x) (list_all q front) all) stop in
    let here : prefix_len q (x ∷ (front ++ rest)) ≡ 1 + prefix_len q (front ++ rest) = ap (λ (t : Bool). cond t (1 + prefix_len q (front ++ rest)) 0) one in
    let long : 1 + length front ≡ length (x ∷ front) = omega arith in
    here ∙ ap (λ (n : ℕ). 1 + n) more ∙ long

all_as : (q r : ℕ → Bool) → ((x : ℕ) → q x ≡ true → r x ≡ true) → (xs : List ℕ) → list_all q xs ≡ true → list_all r xs ≡ true
all_as q r each [] h = refl
all_as q r each (x ∷ xs) h =
    both (r x) (list_all r xs) (each x (first_of (q x) (list_all q xs) h)) (all_as q r each xs (second_of (q x) (list_all q xs) h))

twice : (b : Bool) → not (not b) ≡ true → b ≡ true
twice true h = refl
twice false h = absurd cc

not_twice : (b : Bool) → b ≡ true → not (not b) ≡ true
not_twice true h = refl
not_twice false h = absurd cc

-- ---- a dot and a name

goes_on : ℕ → Bool
goes_on b = not (ends_name b)

stops : (k : ℕ) → prefix_len (λ b. not (ends_name b)) (spaces k) ≡ 0
stops zero = refl
stops (suc k) = refl

module _ (of_id : Bool) (at : ℕ) where
  abbrev wrong : Result Action TemplateFault
  wrong = Err (faults.Action at)

  abbrev unlisted : Result Action TemplateFault
  unlisted = Err (faults.Field at)

  dotted_name : (name : List ℕ) (k : ℕ) → is_identifier name ≡ true → list_all is_name_byte name ≡ true → dotted of_id at (name ++ spaces k) ≡ listed of_id at name
  dotted_name name k identifier letters =
      let bytes : List ℕ = name ++ spaces k in
      let len : position_or_len ends_name bytes ≡ length name =
      first_behind (λ b. not (ends_name b)) name (spaces k) (all_as is_name_byte (λ b. not (ends_name b)) (λ x h. not_twice (is_name_byte x) h) name letters) (stops k) in
      let cut : List ℕ → List ℕ → Result Action TemplateFault = λ t d. cond (is_identifier t && are_spaces d) (listed of_id at t) wrong in
      ap (λ (n : ℕ). cut (take n bytes) (drop n bytes)) len
      ∙ ap (λ (t : List ℕ). cut t (drop (length name) bytes)) (take-append_seam name (spaces k))
      ∙ ap (λ (d : List ℕ). cut name d) (drop-append_seam name (spaces k))
      ∙ ap (λ (t : Bool). cond t (listed of_id at name) wrong) (both (is_identifier name) (are_spaces (spaces k)) identifier (are_spaces_of k))

  -- a dot and a name is what is listed of the name
  name_read : (body name : List ℕ) → SpellsName body name → action_at of_id at body ≡ listed of_id at name
  name_read body name s =
      let tail : List ℕ = 46 ∷ (name ++ spaces s.behind) in
      let begins : without_spaces body ≡ tail = ap without_spaces s.is ∙ without_spaces_of s.before tail in
      ap (action_of_words of_id at body) begins ∙ dotted_name name s.behind s.identifier s.letters

  -- ---- words and a key between quotes

  cut_read : (front rest : List ℕ) → has_no_quote front ≡ true → cut_at_quote (front ++ 34 ∷ rest) ≡ Some (front, rest)
  cut_read front rest quiet =
      let bytes : List ℕ = front ++ 34 ∷ rest in
      let len : position_or_len is_quote bytes ≡ length front = first_behind (λ b. not (is_quote b)) front (34 ∷ rest) quiet refl in
      let whole : length bytes ≡ length front + length (34 ∷ rest) = length-append front (34 ∷ rest) in
      let less : length front < length bytes = omega (arith, whole) in
      let there : nat_lt (length front) (length bytes) ≡ true = lt-ltb (length front) (length bytes) less in
      let one : length front + 1 ≡ length (front ++ 34 ∷ []) = sym (length-append front (34 ∷ [])) in
      let split : bytes ≡ (front ++ 34 ∷ []) ++ rest = sym (append_assoc front (34 ∷ []) rest) in
      let behind : drop (length front + 1) bytes ≡ rest =
      ap (λ (n : ℕ). drop n bytes) one ∙ ap (drop (length (front ++ 34 ∷ []))) split ∙ drop-append_seam (front ++ 34 ∷ []) rest in
      ap (λ (n : ℕ). cond (nat_lt n (length bytes)) (Some (take n bytes, drop (n + 1) bytes)) None) len
      ∙ ap (λ (t : Bool). cond t (Some (take (length front) bytes, drop (length front + 1) bytes)) None) there
      ∙ ap (λ (l : List ℕ). Some (l, drop (length front + 1) bytes)) (take-append_seam front (34 ∷ rest))
      ∙ ap (λ (l : List ℕ). Some (front, l)) behind

  quiet_spaces : (n : ℕ) (words : List ℕ) → has_no_quote words ≡ true → has_no_quote (spaces n ++ words) ≡ true
  quiet_spaces zero words h = h
  quiet_spaces (suc n) words h = quiet_spaces n words h

  keyed_read : (before behind : ℕ) (words key : List ℕ) → has_no_quote words ≡ true → has_no_quote key ≡ true
      → indexed at (spaces before ++ (keyed words key ++ spaces behind)) ≡ of_key at (without_spaces words) key
  keyed_read before behind words key quiet_words quiet =
      let front : List ℕ = spaces before ++ words in
      let rest : List ℕ = key ++ 34 ∷ spaces behind in
      let is : spaces before ++ (keyed words key ++ spaces behind) ≡ front ++ 34 ∷ rest =
      ap (λ (l : List ℕ). spaces before ++ l) (keyed_more words key (spaces behind)) ∙ sym (append_assoc (spaces before) words (34 ∷ rest)) in
      let inner : List ℕ × List ℕ → List ℕ × List ℕ → Result Action TemplateFault = λ p q. cond (are_spaces q.1) (of_key at (without_spaces p.0) q.0) wrong in
      let outer : List ℕ × List ℕ → Result Action TemplateFault = λ p. option_map_or (inner p) (cut_at_quote p.1) wrong in
      ap (indexed at) is
      ∙ ap (λ (o : Option (List ℕ × List ℕ)). option_map_or outer o wrong) (cut_read front rest (quiet_spaces before words quiet_words))
      ∙ ap (λ (o : Option (List ℕ × List ℕ)). option_map_or (inner (front, rest)) o wrong) (cut_read key (spaces behind) quiet)
      ∙ ap (λ (t : Bool). cond t (of_key at (without_spaces front) key) wrong) (are_spaces_of behind)
      ∙ ap (λ (l : List ℕ). of_key at l key) (without_spaces_of before words)

  -- ---- each action that is spelled is read

  by_name : (body name : List ℕ) (action : Action) → is_identifier name ≡ true → list_all is_name_byte name ≡ true → named name ≡ Some action → action_spelling action ≡ 46 ∷ name
      → IsAction of_id body action → action_at of_id at body ≡ Ok action
  by_name body name action identifier letters is spelling a =
      let s = a.spelled in
      let spelled : SpellsName body name = record {
        before = s.before;
        behind = s.behind;
        identifier = identifier;
        letters = letters;
        is = s.is ∙ ap (λ (l : List ℕ). spaces s.before ++ (l ++ spaces s.behind)) spelling;
      } in
      name_read body name spelled ∙ ap (λ (o : Option Action). option_map_or (λ a. cond (is_allowed of_id a) (Ok a) unlisted) o unlisted) is
      ∙ ap (λ (t : Bool). cond t (Ok action) unlisted) a.allowed

  pub action_read : (body : List ℕ) (action : Action) → IsAction of_id body action → action_at of_id at body ≡ Ok action
  action_read body actions.Id a = by_name body (codes "ID") actions.Id refl refl refl refl a
  action_read body actions.Name a = by_name body (codes "Name") actions.Name refl refl refl refl a
  action_read body actions.TaskName a = by_name body (codes "TaskName") actions.TaskName refl refl refl refl a
  action_read body actions.Group a = by_name body (codes "Group") actions.Group refl refl refl refl a
  action_read body actions.Level a = by_name body (codes "Level") actions.Level refl refl refl refl a
  action_read body actions.Time a = by_name body (codes "Time") actions.Time refl refl refl refl a
  action_read body (actions.Tag key) a =
      let s = a.spelled in
      let tail : List ℕ = keyed (codes "index .Tags ") key ++ spaces s.behind in
      let begins : without_spaces body ≡ tail = ap without_spaces s.is ∙ without_spaces_of s.before tail in
      ap (action_of_words of_id at body) begins ∙ ap (indexed at) s.is ∙ keyed_read s.before s.behind (codes "index .Tags ") key refl a.plain
  action_read body (actions.Field key) a =
      let s = a.spelled in
      let tail : List ℕ = keyed (codes "index .Fields ") key ++ spaces s.behind in
      let begins : without_spaces body ≡ tail = ap without_spaces s.is ∙ without_spaces_of s.before tail in
      ap (action_of_words of_id at body) begins ∙ ap (indexed at) s.is ∙ keyed_read s.before s.behind (codes "index .Fields ") key refl a.plain

  -- ---- what is read: what is listed of a name, what a key stands for behind words, or a fault

  data Outcome (body : List ℕ) : Result Action TemplateFault → Type 0 where
    of_name : (name : List ℕ) → SpellsName body name → Outcome body (listed of_id at name)
    of_words : (words key : List ℕ) → has_no_quote key ≡ true → Outcome body (of_key at words key)
    of_other_form : Outcome body wrong

  dotted_outcome : (body bytes : List ℕ) (before : ℕ) → body ≡ spaces before ++ (46 ∷ bytes) → Outcome body (dotted of_id at bytes)
  dotted_outcome body bytes before is = go (is_identifier name && are_spaces behind) refl
    where
      name : List ℕ
      name = before_first ends_name bytes

      behind : List ℕ
      behind = drop (position_or_len ends_name bytes) bytes

      go : (t : Bool) → (is_identifier name && are_spaces behind) ≡ t → Outcome body (cond t (listed of_id at name) wrong)
      go true e =
          let letters = before_fail (λ b. not (ends_name b)) bytes in
          of_name name (record {
            before = before;
            behind = length behind;
            identifier = first_of (is_identifier name) (are_spaces behind) e;
            letters = all_as (λ b. not (ends_name b)) is_name_byte (λ x h. twice (is_name_byte x) h) name letters;
            is = is ∙ ap (λ (l : List ℕ). spaces before ++ (46 ∷ l))
                (sym (take-append-drop (position_or_len ends_name bytes) bytes) ∙ ap (λ (l : List ℕ). name ++ l) (all_spaces behind (second_of (is_identifier name) (are_spaces behind) e)));
          })
      go false e = of_other_form

  quiet_cut : (bytes : List ℕ) (q : List ℕ × List ℕ) → cut_at_quote bytes ≡ Some q → has_no_quote q.0 ≡ true
  quiet_cut bytes q h = go (nat_lt (position_or_len is_quote bytes) (length bytes)) h
    where
      go : (t : Bool) → cond t (Some (before_first is_quote bytes, after_first is_quote bytes)) None ≡ Some q → has_no_quote q.0 ≡ true
      go true e =
          let same : (before_first is_quote bytes, after_first is_quote bytes) ≡ q = cc in
          ap (λ (p : List ℕ × List ℕ). has_no_quote p.0) (sym same) ∙ before_fail (λ b. not (is_quote b)) bytes
      go false e = absurd cc

  indexed_outcome : (body : List ℕ) → Outcome body (indexed at body)
  indexed_outcome body = outer (cut_at_quote body)
    where
      spaced_end : (p q : List ℕ × List ℕ) → has_no_quote q.0 ≡ true → (t : Bool) → Outcome body (cond t (of_key at (without_spaces p.0) q.0) wrong)
      spaced_end p q quiet true = of_words (without_spaces p.0) q.0 quiet
      spaced_end p q quiet false = of_other_form

      inner : (p : List ℕ × List ℕ) (o : Option (List ℕ × List ℕ)) → cut_at_quote p.1 ≡ o → Outcome body (option_map_or (λ q. cond (are_spaces q.1) (of_key at (without_spaces p.0) q.0) wrong) o wrong)
      inner p None e = of_other_form
      inner p (Some q) e = spaced_end p q (quiet_cut p.1 q e) (are_spaces q.1)

      outer : (o : Option (List ℕ × List ℕ)) → Outcome body (option_map_or (λ p. option_map_or (λ q. cond (are_spaces q.1) (of_key at (without_spaces p.0) q.0) wrong) (cut_at_quote p.1) wrong) o wrong)
      outer None = of_other_form
      outer (Some p) = inner p (cut_at_quote p.1) refl

  outcome : (body : List ℕ) → Outcome body (action_at of_id at body)
  outcome body = go (without_spaces body) refl
    where
      at_dot : (b : ℕ) (bytes : List ℕ) → without_spaces body ≡ b ∷ bytes → (t : Bool) → (b == 46) ≡ t → Outcome body (cond t (dotted of_id at bytes) (indexed at body))
      at_dot b bytes e true t =
          let s = spaced body in
          dotted_outcome body bytes s.count (s.is ∙ ap (λ (l : List ℕ). spaces s.count ++ l) (e ∙ ap (λ (c : ℕ). c ∷ bytes) (eqb-true b 46 t)))
      at_dot b bytes e false t = indexed_outcome body

      go : (w : List ℕ) → without_spaces body ≡ w → Outcome body (action_of_words of_id at body w)
      go [] e = indexed_outcome body
      go (b ∷ bytes) e = at_dot b bytes e (b == 46) refl

  -- ---- what is read is spelled

  dot_plain : (name : List ℕ) (action : Action) → 46 ∷ name ≡ action_spelling action → is_plain action ≡ true
  dot_plain name actions.Id e = refl
  dot_plain name actions.Name e = refl
  dot_plain name actions.TaskName e = refl
  dot_plain name actions.Group e = refl
  dot_plain name actions.Level e = refl
  dot_plain name actions.Time e = refl
  dot_plain name (actions.Tag key) e = let same : ◌≡◌ {A = ℕ} 46 105 = cc in absurd (omega (arith, same))
  dot_plain name (actions.Field key) e = let same : ◌≡◌ {A = ℕ} 46 105 = cc in absurd (omega (arith, same))

  -- an action has a key without quotes, and is allowed
  record Fits (action : Action) : Type 0 where
    plain : is_plain action ≡ true
    allowed : is_allowed of_id action ≡ true

  read_fits : (body : List ℕ) (r : Result Action TemplateFault) → Outcome body r → (action : Action) → r ≡ Ok action → Fits action
  read_fits body r (of_name name s) action h = go (named name) refl h
    where
      go : (o : Option Action) → named name ≡ o → option_map_or (λ a. cond (is_allowed of_id a) (Ok a) unlisted) o unlisted ≡ Ok action → Fits action
      go None e h = absurd cc
      go (Some a) e h =
          let told = guard_ok (is_allowed of_id a) (faults.Field at) a action h in
          subst Fits told.1 (record { plain = dot_plain name a (named_text name a e); allowed = told.0 })
  read_fits body r (of_words words key quiet) action h = tags (bytes_eq words (codes "index .Tags ")) h
    where
      fields : (t : Bool) → cond t (Ok (actions.Field key)) wrong ≡ Ok action → Fits action
      fields true h = subst Fits (ok_is (actions.Field key) action h) (record { plain = quiet; allowed = refl })
      fields false h = absurd cc

      tags : (t : Bool) → cond t (Ok (actions.Tag key)) (cond (bytes_eq words (codes "index .Fields ")) (Ok (actions.Field key)) wrong) ≡ Ok action → Fits action
      tags true h = subst Fits (ok_is (actions.Tag key) action h) (record { plain = quiet; allowed = refl })
      tags false h = fields (bytes_eq words (codes "index .Fields ")) h
  read_fits body r of_other_form action h = absurd cc

  spelled_of_read : (body : List ℕ) (action : Action) → action_at of_id at body ≡ Ok action → IsAction of_id body action
  spelled_of_read body action h =
      let fits = read_fits body (action_at of_id at body) (outcome body) action h in
      record { spelled = spells_action of_id at action body h; plain = fits.plain; allowed = fits.allowed }

  -- ---- faults

  listed_fault : (name : List ℕ) (f : TemplateFault) → listed of_id at name ≡ Err f → f ≡ faults.Field at
  listed_fault name f h = go (named name) h
    where
      of_test : (a : Action) (t : Bool) → cond t (Ok a) unlisted ≡ Err f → f ≡ faults.Field at
      of_test a true h = absurd cc
      of_test a false h = cc

      go : (o : Option Action) → option_map_or (λ a. cond (is_allowed of_id a) (Ok a) unlisted) o unlisted ≡ Err f → f ≡ faults.Field at
      go None h = cc
      go (Some a) h = of_test a (is_allowed of_id a) h

  -- the fault of a name, or one of another form
  data Fault (body : List ℕ) (f : TemplateFault) : Type 0 where
    at_name : (name : List ℕ) → SpellsName body name → f ≡ faults.Field at → Fault body f
    at_form : f ≡ faults.Action at → Fault body f

  read_fault : (body : List ℕ) (r : Result Action TemplateFault) → Outcome body r → (f : TemplateFault) → r ≡ Err f → Fault body f
  read_fault body r (of_name name s) f h = at_name name s (listed_fault name f h)
  read_fault body r (of_words words key quiet) f h = tags (bytes_eq words (codes "index .Tags ")) h
    where
      fields : (t : Bool) → cond t (Ok (actions.Field key)) wrong ≡ Err f → Fault body f
      fields true h = absurd cc
      fields false h = at_form cc

      tags : (t : Bool) → cond t (Ok (actions.Tag key)) (cond (bytes_eq words (codes "index .Fields ")) (Ok (actions.Field key)) wrong) ≡ Err f → Fault body f
      tags true h = absurd cc
      tags false h = fields (bytes_eq words (codes "index .Fields ")) h
  read_fault body r of_other_form f h = at_form cc

  -- ---- by its form

  pub action_by_form : (body : List ℕ) (action : Action) → (action_at of_id at body ≡ Ok action) ↔ IsAction of_id body action
  action_by_form body action = (spelled_of_read body action, action_read body action)

  not_read : (body : List ℕ) (f : TemplateFault) → action_at of_id at body ≡ Err f → (action : Action) → ¬ (IsAction of_id body action)
  not_read body f h action a = let ok = action_read body action a in absurd cc

  unlisted_of : (body : List ℕ) → action_at of_id at body ≡ unlisted → IsUnlisted of_id body
  unlisted_of body h = go (read_fault body (action_at of_id at body) (outcome body) (faults.Field at) h)
    where
      go : Fault body (faults.Field at) → IsUnlisted of_id body
      go (at_name name s e) = record { name = name; spelled = s; no_action = not_read body (faults.Field at) h }
      go (at_form e) = absurd cc

  of_unlisted : (body : List ℕ) → IsUnlisted of_id body → action_at of_id at body ≡ unlisted
  of_unlisted body u = name_read body u.name u.spelled ∙ go (listed of_id at u.name) refl
    where
      go : (r : Result Action TemplateFault) → listed of_id at u.name ≡ r → r ≡ unlisted
      go (Ok a) e = absurd (u.no_action a (spelled_of_read body a (name_read body u.name u.spelled ∙ e)))
      go (Err f) e = ap (λ (g : TemplateFault). let w : Result Action TemplateFault = Err g in w) (listed_fault u.name f e)

  pub field_by_form : (body : List ℕ) → (action_at of_id at body ≡ unlisted) ↔ IsUnlisted of_id body
  field_by_form body = (unlisted_of body, of_unlisted body)

  other_of : (body : List ℕ) → action_at of_id at body ≡ wrong → IsOfOtherForm of_id body
  other_of body h = record {
    no_action = not_read body (faults.Action at) h;
    no_name = λ name s.
        let is = listed_fault name (faults.Action at) (sym (name_read body name s) ∙ h) in
        absurd cc;
  }

  of_other : (body : List ℕ) → IsOfOtherForm of_id body → action_at of_id at body ≡ wrong
  of_other body other = go (action_at of_id at body) refl
    where
      of_fault : (f : TemplateFault) → Fault body f → ◌≡◌ {A = Result Action TemplateFault} (Err f) wrong
      of_fault f (at_name name s e) = absurd (other.no_name name s)
      of_fault f (at_form e) = ap (λ (g : TemplateFault). let w : Result Action TemplateFault = Err g in w) e

      go : (r : Result Action TemplateFault) → action_at of_id at body ≡ r → r ≡ wrong
      go (Ok a) e = absurd (other.no_action a (spelled_of_read body a e))
      go (Err f) e = of_fault f (read_fault body (action_at of_id at body) (outcome body) f e)

  pub action_fault_by_form : (body : List ℕ) → (action_at of_id at body ≡ wrong) ↔ IsOfOtherForm of_id body
  action_fault_by_form body = (other_of body, of_other body)

  pub no_other_fault : (body : List ℕ) (f : TemplateFault) → action_at of_id at body ≡ Err f → (f ≡ faults.Action at) ⊎ (f ≡ faults.Field at)
  no_other_fault body f h = go (read_fault body (action_at of_id at body) (outcome body) f h)
    where
      go : Fault body f → (f ≡ faults.Action at) ⊎ (f ≡ faults.Field at)
      go (at_name name s e) = inr e
      go (at_form e) = inl e
