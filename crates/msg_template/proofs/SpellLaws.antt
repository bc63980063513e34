-- A text that is read as parts is their spelling.
use Rattle.std.proofs.Common.{◌≡◌, ℕ, suc, ◌<◌, Bool, true, false, cond, List, [], ◌∷◌, ◌++◌, length, take, drop, get_or, Option, Some, None, Result, Ok, Err, refl, sym, ap, subst, ◌∙◌, append-nil, append_assoc, arith, ◌&&◌}
use Rattle.std.specs.Prelude.{bytes_eq, codes, ◌==◌, nat_lt}
use Rattle.std.specs.List.{before_first, after_first, position_or_len}
use Rattle.std.specs.Option.{option_map_or}
use Rattle.std.proofs.lemmas.Bool.{eqb-true}
use Rattle.std.proofs.lemmas.Bool.Decides.{nat_tests}
use Rattle.std.proofs.lemmas.List.{take-append-drop}
use Rattle.std.proofs.lemmas.List.Sums.{passes_at_first, split_at_first}
use Rattle.std.proofs.lemmas.Slice.Eq.{bytes_eq-Decides}
use Rattle.kap_base.proofs.TestLaws.{first_of, guard_ok, ok_is, second_of, then_ok}
use Rattle.msg_template.specs.declared.action.Action.{Action}
use Rattle.msg_template.specs.declared.action.Action.TheVariants as actions
use Rattle.msg_template.specs.declared.template.Part.{Part}
use Rattle.msg_template.specs.declared.template.Part.TheVariants as parts
use Rattle.msg_template.specs.declared.fault.TemplateFault.{TemplateFault}
use Rattle.msg_template.specs.declared.fault.TemplateFault.TheVariants as faults
use Rattle.msg_template.specs.Actions.{action_at, action_of_words, are_spaces, cut_at_quote, dotted, ends_name, indexed, is_allowed, is_identifier, is_quote, listed, named, of_key, without_spaces}
use Rattle.msg_template.specs.Reading.{opening, closing, words, Reads, last_words, next_action}
use Rattle.msg_template.specs.Spellings.{SpellsAction, Spells, action_spelling, keyed, no_part, action_part, spaces, word_part}

-- ---- spaces

pub all_spaces : (bytes : List ℕ) → are_spaces bytes ≡ true → bytes ≡ spaces (length bytes)
all_spaces [] e = refl
all_spaces (b ∷ bytes) e =
    let first : b ≡ 32 = eqb-true b 32 (first_of (b == 32) (are_spaces bytes) e) in
    let others = all_spaces bytes (second_of (b == 32) (are_spaces bytes) e) in
    ap (λ (c : ℕ). c ∷ bytes) first ∙ ap (λ (l : List ℕ). 32 ∷ l) others

-- how many spaces stand at the front
pub record Spaced (bytes : List ℕ) : Type 0 where
  pub count : ℕ
  pub is : bytes ≡ spaces count ++ without_spaces bytes

pub spaced : (bytes : List ℕ) → Spaced bytes
spaced [] = record { count = 0; is = refl }
spaced (b ∷ bytes) = go (spaced bytes) (b == 32) refl
  where
    go : Spaced bytes → (t : Bool) → (b == 32) ≡ t → Spaced (b ∷ bytes)
    go more true e =
        let first : b ≡ 32 = eqb-true b 32 e in
        let left : without_spaces (b ∷ bytes) ≡ without_spaces bytes = ap (λ (t : Bool). cond t (without_spaces bytes) (b ∷ bytes)) e in
        record {
          count = suc more.count;
          is = ap (λ (c : ℕ). c ∷ bytes) first ∙ ap (λ (l : List ℕ). 32 ∷ l) more.is ∙ ap (λ (l : List ℕ). 32 ∷ (spaces more.count ++ l)) (sym left);
        }
    go more false e = record { count = 0; is = sym (ap (λ (t : Bool). cond t (without_spaces bytes) (b ∷ bytes)) e) }

-- ---- a dot and a name

pub named_text : (name : List ℕ) (action : Action) → named name ≡ Some action → 46 ∷ name ≡ action_spelling action
named_text name action e = id (bytes_eq name (codes "ID")) refl e
  where
    is : (text : List ℕ) → bytes_eq name text ≡ true → name ≡ text
    is text t = (bytes_eq-Decides name text).0 t

    some : (a : Action) → Some a ≡ Some action → a ≡ action
    some a h = cc

    time : (t : Bool) → bytes_eq name (codes "Time") ≡ t → cond t (Some actions.Time) None ≡ Some action → 46 ∷ name ≡ action_spelling action
    time true t h = ap (λ (l : List ℕ). 46 ∷ l) (is (codes "Time") t) ∙ ap action_spelling (some actions.Time h)
    time false t h = absurd cc

    after_level : Option Action
    after_level = cond (bytes_eq name (codes "Time")) (Some actions.Time) None

    level : (t : Bool) → bytes_eq name (codes "Level") ≡ t → cond t (Some actions.Level) after_level ≡ Some action → 46 ∷ name ≡ action_spelling action
    level true t h = ap (λ (l : List ℕ). 46 ∷ l) (is (codes "Level") t) ∙ ap action_spelling (some actions.Level h)
    level false t h = time (bytes_eq name (codes "Time")) refl h

    after_group : Option Action
    after_group = cond (bytes_eq name (codes "Level")) (Some actions.Level) after_level

    group : (t : Bool) → bytes_eq name (codes "Group") ≡ t → cond t (Some actions.Group) after_group ≡ Some action → 46 ∷ name ≡ action_spelling action
    group true t h = ap (λ (l : List ℕ). 46 ∷ l) (is (codes "Group") t) ∙ ap action_spelling (some actions.Group h)
    group false t h = level (bytes_eq name (codes "Level")) refl h

    after_task : Option Action
    after_task = cond (bytes_eq name (codes "Group")) (Some actions.Group) after_group

    task : (t : Bool) → bytes_eq name (codes "TaskName") ≡ t → cond t (Some actions.TaskName) after_task ≡ Some action → 46 ∷ name ≡ action_spelling action
    task true t h = ap (λ (l : List ℕ). 46 ∷ l) (is (codes "TaskName") t) ∙ ap action_spelling (some actions.TaskName h)
    task false t h = group (bytes_eq name (codes "Group")) refl h

    after_name : Option Action
    after_name = cond (bytes_eq name (codes "TaskName")) (Some actions.TaskName) after_task

    own : (t : Bool) → bytes_eq name (codes "Name") ≡ t → cond t (Some actions.Name) after_name ≡ Some action → 46 ∷ name ≡ action_spelling action
    own true t h = ap (λ (l : List ℕ). 46 ∷ l) (is (codes "Name") t) ∙ ap action_spelling (some actions.Name h)
    own false t h = task (bytes_eq name (codes "TaskName")) refl h

    after_id : Option Action
    after_id = cond (bytes_eq name (codes "Name")) (Some actions.Name) after_name

    id : (t : Bool) → bytes_eq name (codes "ID") ≡ t → cond t (Some actions.Id) after_id ≡ Some action → 46 ∷ name ≡ action_spelling action
    id true t h = ap (λ (l : List ℕ). 46 ∷ l) (is (codes "ID") t) ∙ ap action_spelling (some actions.Id h)
    id false t h = own (bytes_eq name (codes "Name")) refl h

-- ---- quotes

-- what stands at a quote
pub quoted : (bytes : List ℕ) (p : List ℕ × List ℕ) → cut_at_quote bytes ≡ Some p → bytes ≡ p.0 ++ (34 ∷ p.1)
quoted bytes p h = go (nat_lt (position_or_len is_quote bytes) (length bytes)) refl h
  where
    go : (t : Bool) → nat_lt (position_or_len is_quote bytes) (length bytes) ≡ t → cond t (Some (before_first is_quote bytes, after_first is_quote bytes)) None ≡ Some p → bytes ≡ p.0 ++ (34 ∷ p.1)
    go true e h =
        let n = position_or_len is_quote bytes in
        let lt : n < length bytes = grind (arith, nat_tests) in
        let quote : get_or bytes n 0 ≡ 34 = eqb-true (get_or bytes n 0) 34 (passes_at_first is_quote bytes 0 lt) in
        let same : (before_first is_quote bytes, after_first is_quote bytes) ≡ p = cc in
        split_at_first is_quote bytes 0 lt ∙ ap (λ (c : ℕ). before_first is_quote bytes ++ (c ∷ after_first is_quote bytes)) quote
        ∙ ap (λ (q : List ℕ × List ℕ). q.0 ++ (34 ∷ q.1)) same
    go false e h = absurd cc

pub keyed_more : (words key rest : List ℕ) → keyed words key ++ rest ≡ words ++ (34 ∷ (key ++ (34 ∷ rest)))
keyed_more words key rest = append_assoc words (34 ∷ (key ++ (34 ∷ []))) rest ∙ ap (λ (l : List ℕ). words ++ (34 ∷ l)) (append_assoc key (34 ∷ []) rest)

module _ (of_id : Bool) (at : ℕ) (action : Action) where
  abbrev wrong : Result Action TemplateFault
  wrong = Err (faults.Action at)

  listed_text : (name : List ℕ) → listed of_id at name ≡ Ok action → 46 ∷ name ≡ action_spelling action
  listed_text name h = go (named name) refl h
    where
      go : (o : Option Action) → named name ≡ o → option_map_or (λ a. cond (is_allowed of_id a) (Ok a) (Err (faults.Field at))) o (Err (faults.Field at)) ≡ Ok action → 46 ∷ name ≡ action_spelling action
      go None e h = absurd cc
      go (Some a) e h = named_text name action (e ∙ ap (λ (b : Action). Some b) (guard_ok (is_allowed of_id a) (faults.Field at) a action h).1)

  -- how many spaces stand behind the name
  record Dotted (bytes : List ℕ) : Type 0 where
    count : ℕ
    is : 46 ∷ bytes ≡ action_spelling action ++ spaces count

  dotted_text : (bytes : List ℕ) → dotted of_id at bytes ≡ Ok action → Dotted bytes
  dotted_text bytes h =
      let n = position_or_len ends_name bytes in
      let told = then_ok (is_identifier (take n bytes) && are_spaces (drop n bytes)) (faults.Action at) (listed of_id at (take n bytes)) action h in
      let behind = all_spaces (drop n bytes) (second_of (is_identifier (take n bytes)) (are_spaces (drop n bytes)) told.0) in
      record {
        count = length (drop n bytes);
        is = ap (λ (l : List ℕ). 46 ∷ l) (sym (take-append-drop n bytes)) ∙ ap (λ (l : List ℕ). l ++ drop n bytes) (listed_text (take n bytes) told.1)
            ∙ ap (λ (l : List ℕ). action_spelling action ++ l) behind;
      }

  -- ---- words and a key between quotes

  key_text : (words key : List ℕ) → of_key at words key ≡ Ok action → keyed words key ≡ action_spelling action
  key_text words key h = tags (bytes_eq words (codes "index .Tags ")) refl h
    where
      fields : (t : Bool) → bytes_eq words (codes "index .Fields ") ≡ t → cond t (Ok (actions.Field key)) wrong ≡ Ok action → keyed words key ≡ action_spelling action
      fields true t h = ap (λ (l : List ℕ). keyed l key) ((bytes_eq-Decides words (codes "index .Fields ")).0 t) ∙ ap action_spelling (ok_is (actions.Field key) action h)
      fields false t h = absurd cc

      tags : (t : Bool) → bytes_eq words (codes "index .Tags ") ≡ t → cond t (Ok (actions.Tag key)) (cond (bytes_eq words (codes "index .Fields ")) (Ok (actions.Field key)) wrong) ≡ Ok action → keyed words key ≡ action_spelling action
      tags true t h = ap (λ (l : List ℕ). keyed l key) ((bytes_eq-Decides words (codes "index .Tags ")).0 t) ∙ ap action_spelling (ok_is (actions.Tag key) action h)
      tags false t h = fields (bytes_eq words (codes "index .Fields ")) refl h

  indexed_text : (body : List ℕ) → indexed at body ≡ Ok action → SpellsAction action body
  indexed_text body h = go (cut_at_quote body) refl h
    where
      inner : (p : List ℕ × List ℕ) → body ≡ p.0 ++ (34 ∷ p.1) → (o : Option (List ℕ × List ℕ)) → cut_at_quote p.1 ≡ o
          → option_map_or (λ q. cond (are_spaces q.1) (of_key at (without_spaces p.0) q.0) wrong) o wrong ≡ Ok action → SpellsAction action body
      inner p is None e h = absurd cc
      inner p is (Some q) e h =
          let told = then_ok (are_spaces q.1) (faults.Action at) (of_key at (without_spaces p.0) q.0) action h in
          let key = key_text (without_spaces p.0) q.0 told.1 in
          let s = spaced p.0 in
          let tail : List ℕ = 34 ∷ (q.0 ++ (34 ∷ q.1)) in
          record {
            before = s.count;
            behind = length q.1;
            is = is ∙ ap (λ (l : List ℕ). p.0 ++ (34 ∷ l)) (quoted p.1 q e) ∙ ap (λ (l : List ℕ). l ++ tail) s.is ∙ append_assoc (spaces s.count) (without_spaces p.0) tail
                ∙ ap (λ (l : List ℕ). spaces s.count ++ l) (sym (keyed_more (without_spaces p.0) q.0 q.1) ∙ ap (λ (l : List ℕ). l ++ q.1) key
                ∙ ap (λ (l : List ℕ). action_spelling action ++ l) (all_spaces q.1 told.0));
          }

      go : (o : Option (List ℕ × List ℕ)) → cut_at_quote body ≡ o
          → option_map_or (λ p. option_map_or (λ q. cond (are_spaces q.1) (of_key at (without_spaces p.0) q.0) wrong) (cut_at_quote p.1) wrong) o wrong ≡ Ok action → SpellsAction action body
      go None e h = absurd cc
      go (Some p) e h = inner p (quoted body p e) (cut_at_quote p.1) refl h

  -- ---- an action

  at_dot : (body bytes : List ℕ) (b : ℕ) → without_spaces body ≡ b ∷ bytes → (t : Bool) → (b == 46) ≡ t → cond t (dotted of_id at bytes) (indexed at body) ≡ Ok action → SpellsAction action body
  at_dot body bytes b e true t h =
      let d = dotted_text bytes h in
      let s = spaced body in
      record {
        before = s.count;
        behind = d.count;
        is = s.is ∙ ap (λ (l : List ℕ). spaces s.count ++ l) (e ∙ ap (λ (c : ℕ). c ∷ bytes) (eqb-true b 46 t) ∙ d.is);
      }
  at_dot body bytes b e false t h = indexed_text body h

  pub spells_action : (body : List ℕ) → action_at of_id at body ≡ Ok action → SpellsAction action body
  spells_action body h = go (without_spaces body) refl h
    where
      go : (w : List ℕ) → without_spaces body ≡ w → action_of_words of_id at body w ≡ Ok action → SpellsAction action body
      go [] e h = indexed_text body h
      go (b ∷ bytes) e h = at_dot body bytes b e (b == 46) refl h

-- ---- a template

with_words : (text rest : List ℕ) (ps : List Part) → Spells rest ps → Spells (text ++ rest) (words text ++ ps)
with_words [] rest ps s = s
with_words (b ∷ bytes) rest ps s = word_part (b ∷ bytes) rest ps s

spelled : {of_id : Bool} {text : List ℕ} {ps : List Part} → Reads of_id text ps → Spells text ps
spelled (last_words text lacks) =
    subst (λ (l : List ℕ). Spells l (words text)) (append-nil text) (subst (λ (l : List Part). Spells (text ++ []) l) (append-nil (words text)) (with_words text [] [] no_part))
spelled {of_id} (next_action text before body rest at action others one acts more) =
    let tail = action_part body rest action others (spells_action of_id at action body acts) (spelled more) in
    let is : text ≡ before ++ (opening ++ (body ++ (closing ++ rest))) = one.begins.is ∙ ap (λ (l : List ℕ). before ++ (opening ++ l)) one.ends.is in
    subst (λ (l : List ℕ). Spells l (words before ++ (parts.Action action ∷ others))) (sym is) (with_words before (opening ++ (body ++ (closing ++ rest))) (parts.Action action ∷ others) tail)

pub parts_spelled : (of_id : Bool) (text : List ℕ) (ps : List Part) → Reads of_id text ps → Spells text ps
parts_spelled of_id text ps reads = spelled reads
