-- A list that is sorted, and in which ties stand as they came, is the ranked one.
use Rattle.std.proofs.Common.{◌≡◌, ℕ, zero, suc, ◌<◌, ◌≤◌, Bool, true, false, cond, List, [], ◌∷◌, get_or, length, refl, sym, ap, ◌∙◌, subst, arith, add-one}
use Rattle.std.specs.Prelude.{◌&&◌, not, filter, ⊤}
use Rattle.std.specs.Cmp.{IsStrictWeakOrder}
use Rattle.std.specs.List.{All}
use Rattle.std.specs.List.Sorted.{IsSortedBy, IsStableBy, ties}
use Rattle.std.proofs.lemmas.List.Elements.{All-cons, All-filter, All-head, All-nil, All-tail, All-weaker}
use Rattle.std.proofs.lemmas.List.Sorted.{sorted_far}
use Rattle.select_nodes.specs.Ranks.{placed, ranked}

left : (a b : Bool) → (not a && not b) ≡ true → a ≡ false
left true b e = absurd cc
left false b e = refl

right : (a b : Bool) → (not a && not b) ≡ true → b ≡ false
right true b e = absurd cc
right false true e = absurd cc
right false false e = refl

-- where no two are kept, their order isn't seen
kept_in_turn : {A : Type 0} (p q : Bool) (x y : A) (l : List A) → (p ≡ true → q ≡ true → ⊥)
    → cond p (x ∷ cond q (y ∷ l) l) (cond q (y ∷ l) l) ≡ cond q (y ∷ cond p (x ∷ l) l) (cond p (x ∷ l) l)
kept_in_turn true true x y l h = absurd (h refl refl)
kept_in_turn true false x y l h = refl
kept_in_turn false true x y l h = refl
kept_in_turn false false x y l h = refl

module _ {A : Type 0} (before : A → A → Bool) (order : IsStrictWeakOrder before) where
  -- none of these goes before it
  abbrev Stands : A → List A → Type 0
  Stands x xs = All (λ y. before y x ≡ false) xs

  -- none goes before one that stands in front of it
  abbrev Rises : List A → Type 0
  Rises [] = ⊤
  Rises (x ∷ xs) = Stands x xs × Rises xs

  itself : (x : A) → before x x ≡ false
  itself x = elim (before x x) as (λ b. before x x ≡ b → b ≡ false) [
    | true ↦ λ e. sym e ∙ order.one_way x x e
    | false ↦ λ e. refl
  ] refl

  ties_itself : (x : A) → ties before x x ≡ true
  ties_itself x = rw (itself x) refl

  ties_each : (x y : A) → before x y ≡ false → before y x ≡ false → ties before x y ≡ true
  ties_each x y e f = rw (e, f) refl

  -- ---- the ranked list is sorted

  stands_placed : (x y : A) (xs : List A) → before y x ≡ false → Stands x xs → Stands x (placed before y xs)
  stands_placed x y [] e all = All-cons (λ z. before z x ≡ false) y [] e all
  stands_placed x y (z ∷ zs) e all =
      let one = All-head (λ z. before z x ≡ false) z zs all in
      let rest = All-tail (λ z. before z x ≡ false) z zs all in
      elim (before z y) as (λ b. Stands x (cond b (z ∷ placed before y zs) (y ∷ z ∷ zs))) [
        | true ↦ All-cons (λ z. before z x ≡ false) z (placed before y zs) one (stands_placed x y zs e rest)
        | false ↦ All-cons (λ z. before z x ≡ false) y (z ∷ zs) e all
      ]

  rises_placed : (x : A) (xs : List A) → Rises xs → Rises (placed before x xs)
  rises_placed x [] rises = (All-nil (λ y. before y x ≡ false), tt)
  rises_placed x (y ∷ ys) rises = elim (before y x) as (λ b. before y x ≡ b → Rises (cond b (y ∷ placed before x ys) (x ∷ y ∷ ys))) [
    | true ↦ λ e. (stands_placed y x ys (order.one_way y x e) rises.0, rises_placed x ys rises.1)
    | false ↦ λ e. (
      All-cons (λ z. before z x ≡ false) y ys e (All-weaker (λ z. before z y ≡ false) (λ z. before z x ≡ false)
          (λ z h. order.chain z y x h e) ys rises.0),
      rises,
    )
  ] refl

  rises_ranked : (xs : List A) → Rises (ranked before xs)
  rises_ranked [] = tt
  rises_ranked (x ∷ xs) = rises_placed x (ranked before xs) (rises_ranked xs)

  -- ---- and ties stand in it as they came

  not_both : (x y z : A) → before z y ≡ true → ties before x z ≡ true → ties before x y ≡ true → ⊥
  not_both x y z e f g =
      let h : before z y ≡ false = order.chain z x y (right (before x z) (before z x) f) (left (before x y) (before y x) g) in
      absurd cc

  stable_placed : (x y : A) (xs : List A) → filter (ties before x) (placed before y xs) ≡ filter (ties before x) (y ∷ xs)
  stable_placed x y [] = refl
  stable_placed x y (z ∷ zs) =
      elim (before z y) as (λ b. before z y ≡ b → filter (ties before x) (cond b (z ∷ placed before y zs) (y ∷ z ∷ zs)) ≡ filter (ties before x) (y ∷ z ∷ zs)) [
        | true ↦ λ e.
            ap (λ (l : List A). cond (ties before x z) (z ∷ l) l) (stable_placed x y zs)
            ∙ kept_in_turn (ties before x z) (ties before x y) z y (filter (ties before x) zs) (not_both x y z e)
        | false ↦ λ e. refl
      ] refl

  pub stable_ranked : (xs : List A) → IsStableBy before xs (ranked before xs)
  stable_ranked [] x = refl
  stable_ranked (y ∷ ys) x = stable_placed x y (ranked before ys) ∙ ap (λ (l : List A). cond (ties before x y) (y ∷ l) l) (stable_ranked ys x)

  -- ---- and it is the only list of which both hold

  -- what isn't before any is not before those that tie with another
  first_stands : (y z : A) (ys zs : List A) → Stands y ys → filter (ties before z) (y ∷ ys) ≡ filter (ties before z) (z ∷ zs) → before z y ≡ false
  first_stands y z ys zs all same =
      let mine : Stands y (filter (ties before z) (y ∷ ys)) = All-filter (ties before z) (λ x. before x y ≡ false) (y ∷ ys)
      (All-cons (λ x. before x y ≡ false) y ys (itself y) all) in
      let theirs : Stands y (filter (ties before z) (z ∷ zs)) = subst (Stands y) same mine in
      let shown : Stands y (z ∷ filter (ties before z) zs) = subst (λ b. Stands y (cond b (z ∷ filter (ties before z) zs) (filter (ties before z) zs)))
      (ties_itself z) theirs in
      All-head (λ x. before x y ≡ false) z (filter (ties before z) zs) shown

  not_none : (z : A) (zs : List A) → [] ≡ filter (ties before z) (z ∷ zs) → ⊥
  not_none z zs e =
      let some : filter (ties before z) (z ∷ zs) ≡ z ∷ filter (ties before z) zs = rw (ties_itself z) refl in
      let none : [] ≡ z ∷ filter (ties before z) zs = e ∙ some in
      absurd cc

  same_head : (y z : A) (ys zs : List A) → y ∷ ys ≡ z ∷ zs → y ≡ z
  same_head y z ys zs e = cc

  same_tail : (b : Bool) (y : A) (ys zs : List A) → cond b (y ∷ ys) ys ≡ cond b (y ∷ zs) zs → ys ≡ zs
  same_tail true y ys zs e = cc
  same_tail false y ys zs e = e

  only : (ys zs : List A) → Rises ys → Rises zs → ((x : A) → filter (ties before x) ys ≡ filter (ties before x) zs) → ys ≡ zs
  only [] [] up down same = refl
  only [] (z ∷ zs) up down same = absurd (not_none z zs (same z))
  only (y ∷ ys) [] up down same = absurd (not_none y ys (sym (same y)))
  only (y ∷ ys) (z ∷ zs) up down same =
      let one : before z y ≡ false = first_stands y z ys zs up.0 (same z) in
      let other : before y z ≡ false = first_stands z y zs ys down.0 (sym (same y)) in
      let both : y ∷ filter (ties before y) ys ≡ z ∷ filter (ties before y) zs =
      ap (λ b. cond b (y ∷ filter (ties before y) ys) (filter (ties before y) ys)) (sym (ties_itself y))
      ∙ same y
      ∙ ap (λ b. cond b (z ∷ filter (ties before y) zs) (filter (ties before y) zs)) (ties_each y z other one) in
      let is : y ≡ z = same_head y z (filter (ties before y) ys) (filter (ties before y) zs) both in
      let tails : (x : A) → filter (ties before x) ys ≡ filter (ties before x) zs = λ x.
      same_tail (ties before x y) y (filter (ties before x) ys) (filter (ties before x) zs)
      (same x ∙ ap (λ (w : A). cond (ties before x w) (w ∷ filter (ties before x) zs) (filter (ties before x) zs)) (sym is)) in
      (λ i. is i ∷ only ys zs up.1 down.1 tails i)

  -- no later one goes before an earlier one
  abbrev Far : List A → Type 0
  Far xs = (i j : ℕ) (d : A) → i ≤ j → j < length xs → before (get_or xs j d) (get_or xs i d) ≡ false

  rises_from : (xs : List A) → Far xs → Rises xs
  rises_from [] far = tt
  rises_from (x ∷ xs) far = (
    λ k d lt. far 0 (suc k) d (omega arith) (omega arith),
    rises_from xs (λ i j d le lt. far (suc i) (suc j) d (omega arith) (omega arith)),
  )

  pub sorted_is_ranked : (xs ys : List A) → IsSortedBy before ys → IsStableBy before xs ys → ys ≡ ranked before xs
  sorted_is_ranked xs ys up stable = only ys (ranked before xs) (rises_from ys (sorted_far before order ys up)) (rises_ranked xs)
      (λ x. stable x ∙ sym (stable_ranked xs x))

  sorted_from : (xs : List A) → Rises xs → (k : ℕ) (d : A) → suc k < length xs → before (get_or xs (suc k) d) (get_or xs k d) ≡ false
  sorted_from [] rises k d lt = absurd (omega arith)
  sorted_from (x ∷ xs) rises zero d lt = rises.0 0 d (omega arith)
  sorted_from (x ∷ xs) rises (suc k) d lt = sorted_from xs rises.1 k d (omega arith)

  pub ranked_is_sorted : (xs : List A) → IsSortedBy before (ranked before xs)
  ranked_is_sorted xs k d low lt =
      subst (λ (n : ℕ). before (get_or (ranked before xs) n d) (get_or (ranked before xs) k d) ≡ false) (sym (add-one k))
      (sorted_from (ranked before xs) (rises_ranked xs) k d (omega arith))
