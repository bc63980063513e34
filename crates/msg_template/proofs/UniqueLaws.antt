-- A text is read in one way.
use Rattle.std.proofs.Common.{◌≡◌, ℕ, ◌+◌, ◌<◌, ◌≤◌, Bool, true, false, cond, List, [], ◌∷◌, ◌++◌, length, take, drop, Option, Some, None, Result, Ok, Err, ⊎_elim, ◌⊎◌, inl, inr, refl, sym, ap, subst, ◌∙◌, arith, ◌&&◌}
use Rattle.std.specs.Prelude.{bytes_eq, codes, ◌==◌, ⊤}
use Rattle.std.specs.List.{before_first, position_or_len}
use Rattle.std.specs.Option.{option_map_or}
use Rattle.std.proofs.Math.Seq.{take-append_seam, drop-append_seam}
use Rattle.std.proofs.lemmas.Bool.{cases_lt}
use Rattle.std.proofs.lemmas.List.{length-append}
use Rattle.msg_template.specs.declared.action.Action.{Action}
use Rattle.msg_template.specs.declared.action.Action.TheVariants as actions
use Rattle.msg_template.specs.declared.template.Part.{Part}
use Rattle.msg_template.specs.declared.template.Part.TheVariants as parts
use Rattle.msg_template.specs.declared.fault.TemplateFault.{TemplateFault}
use Rattle.msg_template.specs.declared.fault.TemplateFault.TheVariants as faults
use Rattle.msg_template.specs.Actions.{action_at, action_of_words, are_spaces, cut_at_quote, dotted, ends_name, indexed, is_allowed, is_identifier, listed, named, of_key, without_spaces}
use Rattle.msg_template.specs.Reading.{Lacks, Cut, OneAction, opening, closing, words, Reads, last_words, next_action, Refuses, no_end, this_action, later_action}

-- ---- cuts

behind_is : (mark text before behind : List ℕ) → Cut mark text before behind → drop (length before) text ≡ mark ++ behind
behind_is mark text before behind c = ap (drop (length before)) c.is ∙ drop-append_seam before (mark ++ behind)

before_is : (mark text before behind : List ℕ) → Cut mark text before behind → before ≡ take (length before) text
before_is mark text before behind c = sym (ap (take (length before)) c.is ∙ take-append_seam before (mark ++ behind))

not_later : (mark text before behind other more : List ℕ) → Cut mark text before behind → Cut mark text other more → length before ≤ length other
not_later mark text before behind other more c d =
    ⊎_elim
    (λ (lt : length other < length before). absurd (c.first (length other) lt more (behind_is mark text other more d)))
    (λ (le : length before ≤ length other). le)
    (cases_lt (length other) (length before))

append_one : (mark xs ys : List ℕ) → mark ++ xs ≡ mark ++ ys → xs ≡ ys
append_one mark xs ys e = sym (drop-append_seam mark xs) ∙ ap (drop (length mark)) e ∙ drop-append_seam mark ys

pub record SameCut (before behind other more : List ℕ) : Type 0 where
  pub before_same : before ≡ other
  pub behind_same : behind ≡ more

one_cut : (mark text before behind other more : List ℕ) → Cut mark text before behind → Cut mark text other more → SameCut before behind other more
one_cut mark text before behind other more c d =
    let one = not_later mark text before behind other more c d in
    let two = not_later mark text other more before behind d c in
    let same : length before ≡ length other = omega (arith, one, two) in
    record {
      before_same = before_is mark text before behind c ∙ ap (λ n. take n text) same ∙ sym (before_is mark text other more d);
      behind_same = append_one mark behind more (sym (behind_is mark text before behind c) ∙ ap (λ n. drop n text) same ∙ behind_is mark text other more d);
    }

lacks_cut : (mark text before behind : List ℕ) → Lacks mark text → Cut mark text before behind → ⊥
lacks_cut mark text before behind lacks c =
    let whole = ap (λ (l : List ℕ). length l) c.is ∙ length-append before (mark ++ behind) in
    lacks (length before) (omega (arith, whole)) behind (behind_is mark text before behind c)

record SameAction (before body rest before2 body2 rest2 : List ℕ) : Type 0 where
  before_same : before ≡ before2
  body_same : body ≡ body2
  rest_same : rest ≡ rest2

one_action : (text before body rest before2 body2 rest2 : List ℕ) → OneAction text before body rest → OneAction text before2 body2 rest2 → SameAction before body rest before2 body2 rest2
one_action text before body rest before2 body2 rest2 a b =
    let outer = one_cut opening text before a.behind before2 b.behind a.begins b.begins in
    let inner = one_cut closing a.behind body rest body2 rest2 a.ends (subst (λ (l : List ℕ). Cut closing l body2 rest2) (sym outer.behind_same) b.ends) in
    record { before_same = outer.before_same; body_same = inner.before_same; rest_same = inner.behind_same }

no_other_end : (text before behind before2 body rest : List ℕ) → Cut opening text before behind → Lacks closing behind → OneAction text before2 body rest → ⊥
no_other_end text before behind before2 body rest c lacks a =
    let outer = one_cut opening text before behind before2 a.behind c a.begins in
    lacks_cut closing a.behind body rest (subst (Lacks closing) outer.behind_same lacks) a.ends

-- ---- an action is the same at any place

-- both are the same action, or both are faults
abbrev Alike : Result Action TemplateFault → Result Action TemplateFault → Type 0
Alike (Ok a) (Ok b) = a ≡ b
Alike (Ok a) (Err f) = ⊥
Alike (Err f) (Ok b) = ⊥
Alike (Err f) (Err g) = ⊤

alike_if : (b : Bool) (x y z w : Result Action TemplateFault) → Alike x y → Alike z w → Alike (cond b x z) (cond b y w)
alike_if true x y z w p q = p
alike_if false x y z w p q = q

alike_option : {A : Type 0} (f g : A → Result Action TemplateFault) (x y : Result Action TemplateFault) (o : Option A) → ((a : A) → Alike (f a) (g a)) → Alike x y → Alike (option_map_or f o x) (option_map_or g o y)
alike_option f g x y None each none = none
alike_option f g x y (Some a) each none = each a

module _ (of_id : Bool) (m n : ℕ) where
  abbrev here : Result Action TemplateFault
  here = Err (faults.Action m)

  abbrev there : Result Action TemplateFault
  there = Err (faults.Action n)

  listed_alike : (name : List ℕ) → Alike (listed of_id m name) (listed of_id n name)
  listed_alike name =
      alike_option (λ a. cond (is_allowed of_id a) (Ok a) (Err (faults.Field m))) (λ a. cond (is_allowed of_id a) (Ok a) (Err (faults.Field n))) (Err (faults.Field m)) (Err (faults.Field n)) (named name)
      (λ a. alike_if (is_allowed of_id a) (Ok a) (Ok a) (Err (faults.Field m)) (Err (faults.Field n)) refl tt) tt

  dotted_alike : (bytes : List ℕ) → Alike (dotted of_id m bytes) (dotted of_id n bytes)
  dotted_alike bytes =
      alike_if (is_identifier (before_first ends_name bytes) && are_spaces (drop (position_or_len ends_name bytes) bytes)) (listed of_id m (before_first ends_name bytes)) (listed of_id n (before_first ends_name bytes)) here there
      (listed_alike (before_first ends_name bytes)) tt

  of_key_alike : (ws key : List ℕ) → Alike (of_key m ws key) (of_key n ws key)
  of_key_alike ws key =
      alike_if (bytes_eq ws (codes "index .Tags ")) (Ok (actions.Tag key)) (Ok (actions.Tag key)) (cond (bytes_eq ws (codes "index .Fields ")) (Ok (actions.Field key)) here) (cond (bytes_eq ws (codes "index .Fields ")) (Ok (actions.Field key)) there)
      refl (alike_if (bytes_eq ws (codes "index .Fields ")) (Ok (actions.Field key)) (Ok (actions.Field key)) here there refl tt)

  quoted_alike : (p q : List ℕ × List ℕ) → Alike (cond (are_spaces q.1) (of_key m (without_spaces p.0) q.0) here) (cond (are_spaces q.1) (of_key n (without_spaces p.0) q.0) there)
  quoted_alike p q = alike_if (are_spaces q.1) (of_key m (without_spaces p.0) q.0) (of_key n (without_spaces p.0) q.0) here there (of_key_alike (without_spaces p.0) q.0) tt

  behind_quote_alike : (p : List ℕ × List ℕ) → Alike (option_map_or (λ q. cond (are_spaces q.1) (of_key m (without_spaces p.0) q.0) here) (cut_at_quote p.1) here) (option_map_or (λ q. cond (are_spaces q.1) (of_key n (without_spaces p.0) q.0) there) (cut_at_quote p.1) there)
  behind_quote_alike p =
      alike_option (λ q. cond (are_spaces q.1) (of_key m (without_spaces p.0) q.0) here) (λ q. cond (are_spaces q.1) (of_key n (without_spaces p.0) q.0) there) here there (cut_at_quote p.1) (quoted_alike p) tt

  indexed_alike : (body : List ℕ) → Alike (indexed m body) (indexed n body)
  indexed_alike body =
      alike_option (λ p. option_map_or (λ q. cond (are_spaces q.1) (of_key m (without_spaces p.0) q.0) here) (cut_at_quote p.1) here) (λ p. option_map_or (λ q. cond (are_spaces q.1) (of_key n (without_spaces p.0) q.0) there) (cut_at_quote p.1) there)
      here there (cut_at_quote body) behind_quote_alike tt

  words_alike : (body ws : List ℕ) → Alike (action_of_words of_id m body ws) (action_of_words of_id n body ws)
  words_alike body [] = indexed_alike body
  words_alike body (b ∷ bytes) = alike_if (b == 46) (dotted of_id m bytes) (dotted of_id n bytes) (indexed m body) (indexed n body) (dotted_alike bytes) (indexed_alike body)

  same_action : (body other : List ℕ) (a b : Action) → body ≡ other → action_at of_id m body ≡ Ok a → action_at of_id n other ≡ Ok b → a ≡ b
  same_action body other a b same p q =
      let alike = words_alike body (without_spaces body) in
      let there_is : action_at of_id n body ≡ Ok b = ap (action_at of_id n) same ∙ q in
      subst (Alike (Ok a)) there_is (subst (λ r. Alike r (action_at of_id n body)) p alike)

  no_action : (body other : List ℕ) (a : Action) (f : TemplateFault) → body ≡ other → action_at of_id m body ≡ Ok a → action_at of_id n other ≡ Err f → ⊥
  no_action body other a f same p q =
      let alike = words_alike body (without_spaces body) in
      let there_is : action_at of_id n body ≡ Err f = ap (action_at of_id n) same ∙ q in
      subst (Alike (Ok a)) there_is (subst (λ r. Alike r (action_at of_id n body)) p alike)

-- ---- what a reading says

record NextAction (of_id : Bool) (text : List ℕ) (ps : List Part) : Type 0 where
  before : List ℕ
  body : List ℕ
  rest : List ℕ
  at : ℕ
  action : Action
  others : List Part
  one : OneAction text before body rest
  action_is : action_at of_id at body ≡ Ok action
  reads : Reads of_id rest others
  is : ps ≡ words before ++ parts.Action action ∷ others

abbrev ReadsAs : Bool → List ℕ → List Part → Type 0
ReadsAs of_id text ps = (Lacks opening text × (ps ≡ words text)) ⊎ NextAction of_id text ps

reads_as : {of_id : Bool} {text : List ℕ} {ps : List Part} → Reads of_id text ps → ReadsAs of_id text ps
reads_as (last_words text lacks) = inl (lacks, refl)
reads_as (next_action text before body rest at action others one is r) = inr (record { before = before; body = body; rest = rest; at = at; action = action; others = others; one = one; action_is = is; reads = r; is = refl })

record NoEnd (text : List ℕ) (at : ℕ) (f : TemplateFault) : Type 0 where
  before : List ℕ
  behind : List ℕ
  begins : Cut opening text before behind
  lacks : Lacks closing behind
  is : f ≡ faults.Action (at + length before)

record ThisAction (of_id : Bool) (text : List ℕ) (at : ℕ) (f : TemplateFault) : Type 0 where
  before : List ℕ
  body : List ℕ
  rest : List ℕ
  one : OneAction text before body rest
  fault_is : action_at of_id (at + length before) body ≡ Err f

record LaterAction (of_id : Bool) (text : List ℕ) (at : ℕ) (f : TemplateFault) : Type 0 where
  before : List ℕ
  body : List ℕ
  rest : List ℕ
  action : Action
  one : OneAction text before body rest
  action_is : action_at of_id (at + length before) body ≡ Ok action
  refuses : Refuses of_id rest (at + (length before + length body + 4)) f

abbrev RefusesAs : Bool → List ℕ → ℕ → TemplateFault → Type 0
RefusesAs of_id text at f = NoEnd text at f ⊎ (ThisAction of_id text at f ⊎ LaterAction of_id text at f)

refuses_as : {of_id : Bool} {text : List ℕ} {at : ℕ} {f : TemplateFault} → Refuses of_id text at f → RefusesAs of_id text at f
refuses_as (no_end text before behind at begins lacks) = inl (record { before = before; behind = behind; begins = begins; lacks = lacks; is = refl })
refuses_as (this_action text before body rest at fault one is) = inr (inl (record { before = before; body = body; rest = rest; one = one; fault_is = is }))
refuses_as (later_action text before body rest at action fault one is r) = inr (inr (record { before = before; body = body; rest = rest; action = action; one = one; action_is = is; refuses = r }))

-- ---- one reading

pub one_reading : {of_id : Bool} {text : List ℕ} {ps : List Part} → Reads of_id text ps → (qs : List Part) → Reads of_id text qs → ps ≡ qs
one_reading {of_id} (last_words text lacks) qs second = go (reads_as second)
  where
    go : ReadsAs of_id text qs → words text ≡ qs
    go (inl p) = sym p.1
    go (inr n) = absurd (lacks_cut opening text n.before n.one.behind lacks n.one.begins)
one_reading {of_id} (next_action text before body rest at action others one is r) qs second = go (λ os other. one_reading r os other) (reads_as second)
  where
    go : ((os : List Part) → Reads of_id rest os → others ≡ os) → ReadsAs of_id text qs → words before ++ parts.Action action ∷ others ≡ qs
    go again (inl p) = absurd (lacks_cut opening text before one.behind p.0 one.begins)
    go again (inr n) =
        let s = one_action text before body rest n.before n.body n.rest one n.one in
        let same : action ≡ n.action = same_action of_id at n.at body n.body action n.action s.body_same is n.action_is in
        let more : others ≡ n.others = again n.others (subst (λ (l : List ℕ). Reads of_id l n.others) (sym s.rest_same) n.reads) in
        ap (λ b. words b ++ parts.Action action ∷ others) s.before_same
        ∙ ap (λ a. words n.before ++ parts.Action a ∷ others) same
        ∙ ap (λ (o : List Part). words n.before ++ parts.Action n.action ∷ o) more
        ∙ sym n.is

err_same : (f g : TemplateFault) → ◌≡◌ {A = Result Action TemplateFault} (Err f) (Err g) → f ≡ g
err_same f g e = ap fault_of e
  where
    fault_of : Result Action TemplateFault → TemplateFault
    fault_of (Ok a) = f
    fault_of (Err h) = h

pub one_fault : {of_id : Bool} {text : List ℕ} {at : ℕ} {f : TemplateFault} → Refuses of_id text at f → (g : TemplateFault) → Refuses of_id text at g → f ≡ g
one_fault {of_id} (no_end text before behind at begins lacks) g second = go (refuses_as second)
  where
    go : RefusesAs of_id text at g → faults.Action (at + length before) ≡ g
    go (inl n) = ap (λ (l : List ℕ). faults.Action (at + length l)) (one_cut opening text before behind n.before n.behind begins n.begins).before_same ∙ sym n.is
    go (inr (inl n)) = absurd (no_other_end text before behind n.before n.body n.rest begins lacks n.one)
    go (inr (inr n)) = absurd (no_other_end text before behind n.before n.body n.rest begins lacks n.one)
one_fault {of_id} (this_action text before body rest at fault one is) g second = go (refuses_as second)
  where
    go : RefusesAs of_id text at g → fault ≡ g
    go (inl n) = absurd (no_other_end text n.before n.behind before body rest n.begins n.lacks one)
    go (inr (inl n)) =
        let s = one_action text before body rest n.before n.body n.rest one n.one in
        err_same fault g (sym is ∙ ap (λ (l : List ℕ). action_at of_id (at + length l) body) s.before_same ∙ ap (action_at of_id (at + length n.before)) s.body_same ∙ n.fault_is)
    go (inr (inr n)) =
        let s = one_action text before body rest n.before n.body n.rest one n.one in
        absurd (no_action of_id (at + length n.before) (at + length before) n.body body n.action fault (sym s.body_same) n.action_is is)
one_fault {of_id} (later_action text before body rest at action fault one is r) g second = go (λ h other. one_fault r h other) (refuses_as second)
  where
    go : ((h : TemplateFault) → Refuses of_id rest (at + (length before + length body + 4)) h → fault ≡ h) → RefusesAs of_id text at g → fault ≡ g
    go again (inl n) = absurd (no_other_end text n.before n.behind before body rest n.begins n.lacks one)
    go again (inr (inl n)) =
        let s = one_action text before body rest n.before n.body n.rest one n.one in
        absurd (no_action of_id (at + length before) (at + length n.before) body n.body action g s.body_same is n.fault_is)
    go again (inr (inr n)) =
        let s = one_action text before body rest n.before n.body n.rest one n.one in
        again g (subst (λ (k : ℕ). Refuses of_id rest k g) (ap (λ (l : List ℕ). at + (length l + length n.body + 4)) (sym s.before_same) ∙ ap (λ (l : List ℕ). at + (length before + length l + 4)) (sym s.body_same))
        (subst (λ (l : List ℕ). Refuses of_id l (at + (length n.before + length n.body + 4)) g) (sym s.rest_same) n.refuses))

pub no_fault : {of_id : Bool} {text : List ℕ} {ps : List Part} → Reads of_id text ps → (at : ℕ) (f : TemplateFault) → Refuses of_id text at f → ⊥
no_fault {of_id} (last_words text lacks) at f second = go (refuses_as second)
  where
    go : RefusesAs of_id text at f → ⊥
    go (inl n) = lacks_cut opening text n.before n.behind lacks n.begins
    go (inr (inl n)) = lacks_cut opening text n.before n.one.behind lacks n.one.begins
    go (inr (inr n)) = lacks_cut opening text n.before n.one.behind lacks n.one.begins
no_fault {of_id} (next_action text before body rest place action others one is r) at f second = go (λ k h other. no_fault r k h other) (refuses_as second)
  where
    go : ((k : ℕ) (h : TemplateFault) → Refuses of_id rest k h → ⊥) → RefusesAs of_id text at f → ⊥
    go again (inl n) = no_other_end text n.before n.behind before body rest n.begins n.lacks one
    go again (inr (inl n)) =
        let s = one_action text before body rest n.before n.body n.rest one n.one in
        no_action of_id place (at + length n.before) body n.body action f s.body_same is n.fault_is
    go again (inr (inr n)) =
        let s = one_action text before body rest n.before n.body n.rest one n.one in
        again (at + (length n.before + length n.body + 4)) f (subst (λ (l : List ℕ). Refuses of_id l (at + (length n.before + length n.body + 4)) f) (sym s.rest_same) n.refuses)
