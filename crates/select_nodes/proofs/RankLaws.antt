-- The first by rank goes before all that came earlier, and nothing that came later goes before it.
use Rattle.std.proofs.Common.{◌≡◌, Bool, true, false, cond, List, [], ◌∷◌, ◌++◌, Option, Some, None, refl, sym, ap, ◌∙◌, subst, append-nil}
use Rattle.std.specs.Cmp.{IsStrictWeakOrder}
use Rattle.std.specs.List.{All}
use Rattle.std.specs.Option.{option_to_list}
use Rattle.std.proofs.lemmas.List.Elements.{All-append, All-cons, All-nil, All-weaker}
use Rattle.select_nodes.specs.Picks.{first}
use Rattle.select_nodes.specs.Ranks.{IsFirst, placed, ranked}
use Rattle.select_nodes.specs.Steps.{better}

module _ {A : Type 0} (before : A → A → Bool) (order : IsStrictWeakOrder before) where
  not_before : (x y z : A) → before x y ≡ true → before x z ≡ false → before z y ≡ false → ⊥
  not_before x y z e f g = let h : before x y ≡ false = order.chain x z y f g in absurd cc

  -- what goes before one goes before all before which that one doesn't go
  before_all : (x y z : A) → before x y ≡ true → before z y ≡ false → before x z ≡ true
  before_all x y z e f = elim (before x z) as (λ b. before x z ≡ b → b ≡ true) [
    | true ↦ λ g. refl
    | false ↦ λ g. absurd (not_before x y z e g f)
  ] refl

  -- ---- the first of a ranked list

  -- the first of one and of those behind it
  abbrev lead : A → Option A → A
  lead x None = x
  lead x (Some z) = cond (before z x) z x

  first_placed : (x : A) (xs : List A) → first (placed before x xs) ≡ Some (lead x (first xs))
  first_placed x [] = refl
  first_placed x (z ∷ zs) = elim (before z x) as (λ b. first (cond b (z ∷ placed before x zs) (x ∷ z ∷ zs)) ≡ Some (cond b z x)) [
    | true ↦ refl
    | false ↦ refl
  ]

  leads : (x z y : A) (q : Bool) → before z x ≡ q → (p : Bool) → before y z ≡ p
      → cond (before (cond p y z) x) (cond p y z) x ≡ cond (before y (cond q z x)) y (cond q z x)
  leads x z y true q true p = rw (p, before_all y z x p (order.one_way z x q)) refl
  leads x z y true q false p = rw (p, q) refl
  leads x z y false q true p = refl
  leads x z y false q false p = rw (q, order.chain y z x p q) refl

  lead_more : (x : A) (o : Option A) (y : A) → Some (lead x (better before o (Some y))) ≡ better before (Some (lead x o)) (Some y)
  lead_more x None y = refl
  lead_more x (Some z) y = ap Some (leads x z y (before z x) refl (before y z) refl)

  first_more : (xs : List A) (y : A) → first (ranked before (xs ++ y ∷ [])) ≡ better before (first (ranked before xs)) (Some y)
  first_more [] y = refl
  first_more (x ∷ xs) y =
      first_placed x (ranked before (xs ++ y ∷ []))
      ∙ ap (λ (o : Option A). Some (lead x o)) (first_more xs y)
      ∙ lead_more x (first (ranked before xs)) y
      ∙ ap (λ (o : Option A). better before o (Some y)) (sym (first_placed x (ranked before xs)))

  same_without : (o : Option A) → better before o None ≡ o
  same_without None = refl
  same_without (Some x) = refl

  -- the first by rank, where there may be one more
  pub best_more : (xs : List A) (o : Option A) → better before (first (ranked before xs)) o ≡ first (ranked before (xs ++ option_to_list o))
  best_more xs None = same_without (first (ranked before xs)) ∙ ap (λ (l : List A). first (ranked before l)) (sym (append-nil xs))
  best_more xs (Some y) = sym (first_more xs y)

  -- ---- what the first is

  -- the first by rank where there is one, or nothing is there
  abbrev Firsts : List A → Option A → Type 0
  Firsts xs None = xs ≡ []
  Firsts xs (Some x) = IsFirst before xs x

  -- none goes before one that comes in front of the first, which doesn't go before it
  none_before : (x z : A) (xs : List A) → before z x ≡ false → IsFirst before xs z → All (λ y. before y x ≡ false) xs
  none_before x z xs e f =
      subst (All (λ y. before y x ≡ false)) (sym f.parts)
      (All-append (λ y. before y x ≡ false) f.earlier (z ∷ f.later)
      (All-weaker (λ y. before z y ≡ true) (λ y. before y x ≡ false) (λ y h. order.chain y z x (order.one_way z y h) e) f.earlier f.beats)
      (All-cons (λ y. before y x ≡ false) z f.later e
      (All-weaker (λ y. before y z ≡ false) (λ y. before y x ≡ false) (λ y h. order.chain y z x h e) f.later f.stands)))

  leads_first : (x : A) (xs : List A) (o : Option A) → Firsts xs o → IsFirst before (x ∷ xs) (lead x o)
  leads_first x xs None none = record {
    earlier = [];
    later = xs;
    parts = refl;
    beats = All-nil (λ y. before x y ≡ true);
    stands = subst (All (λ y. before y x ≡ false)) (sym none) (All-nil (λ y. before y x ≡ false));
  }
  leads_first x xs (Some z) f = elim (before z x) as (λ b. before z x ≡ b → IsFirst before (x ∷ xs) (cond b z x)) [
    | true ↦ λ e. record {
      earlier = x ∷ f.earlier;
      later = f.later;
      parts = ap (λ (l : List A). x ∷ l) f.parts;
      beats = All-cons (λ y. before z y ≡ true) x f.earlier e f.beats;
      stands = f.stands;
    }
    | false ↦ λ e. record {
      earlier = [];
      later = xs;
      parts = refl;
      beats = All-nil (λ y. before x y ≡ true);
      stands = none_before x z xs e f;
    }
  ] refl

  firsts : (xs : List A) → Firsts xs (first (ranked before xs))
  firsts [] = refl
  firsts (x ∷ xs) = subst (Firsts (x ∷ xs)) (sym (first_placed x (ranked before xs))) (leads_first x xs (first (ranked before xs)) (firsts xs))

  -- the first of the ranked list is the first by rank
  pub first_of_ranked : (xs : List A) (x : A) → first (ranked before xs) ≡ Some x → IsFirst before xs x
  first_of_ranked xs x e = subst (Firsts xs) e (firsts xs)
