-- Values told once, one value on.
use Rattle.std.proofs.Common.{◌≡◌, ℕ, ◌+◌, ◌<◌, ◌≤◌, Bool, true, false, cond, ◌||◌, List, []}
use Rattle.std.proofs.Common.{◌∷◌, ◌++◌, map, get_or, length, take, refl, sym, ap, ◌∙◌, subst, append-nil}
use Rattle.std.specs.Prelude.{ℤ, filter, not}
use Rattle.std.specs.FinMap.{get}
use Rattle.std.specs.List.{list_any}
use Rattle.std.specs.Option.{option_to_list}
use Rattle.std.proofs.lemmas.List.{map-append, take_all}
use Rattle.std.proofs.lemmas.List.Elements.{filter-append}
use Rattle.kap_base.specs.Points.{PointValue}
use Rattle.kap_base.specs.declared.value.Value.{Value}
use Rattle.select_nodes.specs.Choices.{at_end, distinct}
use Rattle.kap_base.specs.Values.{is_same_value}
use Rattle.select_nodes.specs.Picks.{PickValue, values_at}
use Rattle.select_nodes.specs.Steps.{KeptKey, Told, is_seen}
use Rattle.select_nodes.proofs.ReadingLaws.{more_at}

-- the value, where it is new
abbrev if_new : Bool → Value → List Value
if_new seen v = cond seen [] (v ∷ [])

still_new : (here rest : Bool) (x v : Value) → is_same_value v x ≡ here → filter (λ w. not (is_same_value w x)) (if_new rest v) ≡ if_new (here || rest) v
still_new true true x v e = refl
still_new true false x v e = rw e refl
still_new false true x v e = refl
still_new false false x v e = rw e refl

pub distinct_more : (vs : List Value) (v : Value) → distinct (vs ++ v ∷ []) ≡ distinct vs ++ if_new (list_any (is_same_value v) vs) v
distinct_more [] v = refl
distinct_more (x ∷ xs) v =
    ap (λ (l : List Value). x ∷ filter (λ w. not (is_same_value w x)) l) (distinct_more xs v)
    ∙ ap (λ (l : List Value). x ∷ l) (filter-append (λ w. not (is_same_value w x)) (distinct xs) (if_new (list_any (is_same_value v) xs) v))
    ∙ ap (λ (l : List Value). x ∷ (filter (λ w. not (is_same_value w x)) (distinct xs) ++ l)) (still_new (is_same_value v x) (list_any (is_same_value v) xs) x v refl)

any_push : (p : Value → Bool) (vs : List Value) (v : Value) → list_any p (vs ++ v ∷ []) ≡ (p v || list_any p vs)
any_push p [] v = refl
any_push p (x ∷ xs) v = ap (λ b. p x || b) (any_push p xs v) ∙ swapped (p x) (p v) (list_any p xs)
  where
    swapped : (a b c : Bool) → (a || (b || c)) ≡ (b || (a || c))
    swapped true true c = refl
    swapped true false c = refl
    swapped false b c = refl

-- a value that was seen adds nothing
pub told_again : (tmax : ℤ) (vs : List Value) (v : Value) (old new : List KeptKey) (picks : List PickValue) → Told tmax vs old picks
    → not (is_seen old v) ≡ false
    → ((w : Value) → is_seen new w ≡ (is_same_value w v || is_seen old w)) → Told tmax (vs ++ v ∷ []) new picks
told_again tmax vs v old new picks told known keys = record {
  seen = λ w. keys w ∙ ap (λ b. is_same_value w v || b) (told.seen w) ∙ sym (any_push (is_same_value w) vs v);
  told = told.told ∙ ap (λ (l : List Value). map (at_end tmax) l) (sym (distinct_more vs v ∙ ap (λ b. distinct vs ++ if_new b v)
      (sym (told.seen v) ∙ was (is_seen old v) known) ∙ append-nil (distinct vs)));
}
  where
    was : (b : Bool) → not b ≡ false → b ≡ true
    was true e = refl
    was false e = absurd cc

-- one that wasn't is told
pub told_new : (tmax : ℤ) (vs : List Value) (v : Value) (old new : List KeptKey) (picks : List PickValue) → Told tmax vs old picks → not (is_seen old v) ≡ true
    → ((w : Value) → is_seen new w ≡ (is_same_value w v || is_seen old w)) → Told tmax (vs ++ v ∷ []) new (picks ++ at_end tmax v ∷ [])
told_new tmax vs v old new picks told fresh keys = record {
  seen = λ w. keys w ∙ ap (λ b. is_same_value w v || b) (told.seen w) ∙ sym (any_push (is_same_value w) vs v);
  told =
      ap (λ (l : List PickValue). l ++ at_end tmax v ∷ []) told.told
      ∙ sym (map-append (at_end tmax) (distinct vs) (v ∷ []))
      ∙ ap (λ (l : List Value). map (at_end tmax) l) (sym (distinct_more vs v ∙ ap (λ b. distinct vs ++ if_new b v)
      (sym (told.seen v) ∙ was (is_seen old v) fresh)));
}
  where
    was : (b : Bool) → not b ≡ true → b ≡ false
    was true e = absurd cc
    was false e = refl

-- one point on
pub values_told : (tmax : ℤ) (field : List ℕ) (ps : List PointValue) (i : ℕ) (p : PointValue) → i < length ps → p ≡ get_or ps i p
    → (old new : List KeptKey) (picks more : List PickValue)
    → Told tmax (values_at field (take i ps)) old picks
    → ((vs : List Value) → Told tmax vs old picks → Told tmax (vs ++ option_to_list (get p.fields field)) new more)
    → Told tmax (values_at field (take (i + 1) ps)) new more
values_told tmax field ps i p lt is old new picks more told step =
    subst (λ (vs : List Value). Told tmax vs new more) (sym (more_at (λ (q : PointValue). get q.fields field) ps i p lt is))
    (step (values_at field (take i ps)) told)

-- all points
pub told_all : (z tmax : ℤ) (field : List ℕ) (ps : List PointValue) (i : ℕ) (keys : List KeptKey) (picks : List PickValue) → z ≡ tmax → length ps ≤ i
    → Told z (values_at field (take i ps)) keys picks
    → picks ≡ map (at_end tmax) (distinct (values_at field ps))
told_all z tmax field ps i keys picks same past told = told.told ∙ (λ j. map (at_end (same j)) (distinct (values_at field (take_all i ps past j))))
