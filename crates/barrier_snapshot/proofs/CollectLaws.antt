-- Nets that did the same, or one what the other did behind a barrier, collect the same effects.
use Rattle.std.proofs.Common.{◌≡◌, ℕ, zero, suc, ◌<◌, Bool, true, false, cond, List, [], ◌∷◌, ◌++◌, IsPermutation, filter, get_or, length, ltb, set, swap, refl, ap, subst, ◌∙◌, append-nil, arith}
use Rattle.std.specs.List.{AllZip}
use Rattle.std.proofs.lemmas.List.Sorted.{IsPermutation-append_comm, IsPermutation-append_left, IsPermutation-cons, IsPermutation-keeps, IsPermutation-refl, IsPermutation-sym, IsPermutation-trans}
use Rattle.kap_base.specs.declared.items.Effect.{Effect}
use Rattle.kap_base.specs.declared.items.Stamp.{Stamp}
use Rattle.node_core.specs.declared.node.Node.{Ghosts}
use Rattle.flow_core.specs.LifeLoads.{effects_since}
use Rattle.flow_core.specs.Nets.{NetValue, NumberedLife}
use Rattle.flow_core.specs.Done.{HasGathered, effects_in, together}
use Rattle.flow_core.specs.Sorting.{AreRising, AreSorted, GoesBefore}
use Rattle.flow_core.proofs.UniqueLaws.{sorted_is}
use Rattle.barrier_snapshot.specs.Resuming.{DidTheRestOf, DidTheSame, effects_behind}

-- ---- some of them, in any order

module _ {X : Type 0} (test : X → Bool) where
  -- what passes of two lists
  abbrev Alike : List X → List X → Type 0
  Alike xs ys = IsPermutation (filter test xs) (filter test ys)

  under : (x : X) (xs ys : List X) → Alike xs ys → Alike (x ∷ xs) (x ∷ ys)
  under x xs ys h = by (test x)
    where
      by : (b : Bool) → IsPermutation (cond b (x ∷ filter test xs) (filter test xs)) (cond b (x ∷ filter test ys) (filter test ys))
      by true = IsPermutation-cons x (filter test xs) (filter test ys) h
      by false = h

  turned : (x y : X) (xs : List X) → Alike (x ∷ y ∷ xs) (y ∷ x ∷ xs)
  turned x y xs = by (test x) (test y)
    where
      rest : List X
      rest = filter test xs

      by : (b d : Bool) → IsPermutation (cond b (x ∷ cond d (y ∷ rest) rest) (cond d (y ∷ rest) rest)) (cond d (y ∷ cond b (x ∷ rest) rest) (cond b (x ∷ rest) rest))
      by true true = IsPermutation-append_left rest (x ∷ y ∷ []) (y ∷ x ∷ []) (IsPermutation-append_comm (x ∷ []) (y ∷ []))
      by true false = IsPermutation-refl (x ∷ rest)
      by false true = IsPermutation-refl (y ∷ rest)
      by false false = IsPermutation-refl rest

  chain : (xs ys zs : List X) → Alike xs ys → Alike ys zs → Alike xs zs
  chain xs ys zs = IsPermutation-trans (filter test xs) (filter test ys) (filter test zs)

  to-head : (l : List X) (j : ℕ) (x d : X) → j < length l → Alike (x ∷ l) (get_or l j d ∷ set l j x)
  to-head [] j x d h = absurd (omega (arith, h))
  to-head (y ∷ l) zero x d h = turned x y l
  to-head (y ∷ l) (suc j) x d h =
      let e = get_or l j d in
      let r = set l j x in
      chain (x ∷ y ∷ l) (y ∷ x ∷ l) (e ∷ y ∷ r) (turned x y l)
      (chain (y ∷ x ∷ l) (y ∷ e ∷ r) (e ∷ y ∷ r) (under y (x ∷ l) (e ∷ r) (to-head l j x d (omega (arith, h)))) (turned y e r))

  exchanged : (l : List X) (i j : ℕ) (d : X) → i < length l → j < length l → Alike l (set (set l i (get_or l j d)) j (get_or l i d))
  exchanged [] i j d p q = absurd (omega (arith, p))
  exchanged (x ∷ l) zero zero d p q = IsPermutation-refl (filter test (x ∷ l))
  exchanged (x ∷ l) zero (suc j) d p q = to-head l j x d (omega (arith, q))
  exchanged (x ∷ l) (suc i) zero d p q = to-head l i x d (omega (arith, p))
  exchanged (x ∷ l) (suc i) (suc j) d p q = under x l _ (exchanged l i j d (omega (arith, p)) (omega (arith, q)))

  swapped : (l : List X) (i j : ℕ) → i < length l → j < length l → Alike l (swap l i j)
  swapped [] i j p q = absurd (omega (arith, p))
  swapped (x ∷ l) i j p q = exchanged (x ∷ l) i j x p q

  -- what passes stays the same in any order
  filtered : (xs ys : List X) → IsPermutation xs ys → Alike xs ys
  filtered xs = IsPermutation-keeps xs (Alike xs) (IsPermutation-refl (filter test xs)) (λ l i j p q h. chain xs l (swap l i j) h (swapped l i j p q))

-- ---- some of them, in their order

module _ (test : Effect → Bool) where
  either : (P : List Effect → Type 0) (b : Bool) (xs ys : List Effect) → P xs → P ys → P (cond b xs ys)
  either P true xs ys h k = h
  either P false xs ys h k = k

  before-some : (a : Effect) (effects : List Effect) → GoesBefore a effects → GoesBefore a (filter test effects)
  before-some a [] h = tt
  before-some a (b ∷ effects) h =
      let rest = before-some a effects h.1 in
      either (GoesBefore a) (test b) (b ∷ filter test effects) (filter test effects) (h.0, rest) rest

  some-rise : (effects : List Effect) → AreRising effects → AreRising (filter test effects)
  some-rise [] h = tt
  some-rise (a ∷ effects) h =
      let rest = some-rise effects h.1 in
      either AreRising (test a) (a ∷ filter test effects) (filter test effects) (before-some a effects h.0, rest) rest

-- ---- nets

module _ {N P S : Type 0} (g : Ghosts N P S) where
  -- what a net collects that did what another one did behind a barrier
  pub behind_collected : (upto : Stamp) (whole rest : NetValue N) (all late : List Effect) → DidTheRestOf g upto whole.lives rest.lives → HasGathered all whole → HasGathered late rest
      → IsPermutation (effects_behind upto (all ++ whole.gathered)) (late ++ rest.gathered)
  behind_collected upto whole rest all late did h k =
      let done = effects_in whole.lives in
      let of_all = all ++ whole.gathered in
      IsPermutation-trans (effects_behind upto of_all) (effects_behind upto done) (late ++ rest.gathered)
      (filtered (λ (e : Effect). ltb upto.0 e.stamp.0) of_all done (IsPermutation-sym done of_all h))
      (subst (λ (es : List Effect). IsPermutation es (late ++ rest.gathered)) did.effects k)

  pub behind_in_order : (upto : Stamp) (whole rest : NetValue N) (all late : List Effect) → DidTheRestOf g upto whole.lives rest.lives
      → HasGathered all whole → whole.gathered ≡ [] → AreRising all → HasGathered late rest → rest.gathered ≡ [] → AreSorted late → late ≡ effects_behind upto all
  behind_in_order upto whole rest all late did h none rising k none' sorted =
      sorted_is (effects_behind upto all) late (some-rise (λ (e : Effect). ltb upto.0 e.stamp.0) all rising)
      (subst (λ (es : List Effect). IsPermutation (effects_behind upto es) late) (ap (λ (es : List Effect). all ++ es) none ∙ append-nil all)
      (subst (λ (es : List Effect). IsPermutation (effects_behind upto (all ++ whole.gathered)) es) (ap (λ (es : List Effect). late ++ es) none' ∙ append-nil late)
      (behind_collected upto whole rest all late did h k)))
      sorted

  same-effects : (whole rest : List (NumberedLife N)) → AllZip (DidTheSame g) whole rest → effects_in rest ≡ effects_in whole
  same-effects [] [] z = refl
  same-effects [] (m ∷ rest) z = absurd z
  same-effects (l ∷ whole) [] z = absurd z
  same-effects (l ∷ whole) (m ∷ rest) z =
      ap (λ (es : List Effect). es ++ effects_in rest) (ap together z.0.effects) ∙ ap (λ (es : List Effect). together (effects_since l.life.cells) ++ es) (same-effects whole rest z.1)

  -- and one that did the same
  pub same_collected : (whole rest : NetValue N) (all late : List Effect) → AllZip (DidTheSame g) whole.lives rest.lives → HasGathered all whole → HasGathered late rest
      → IsPermutation (all ++ whole.gathered) (late ++ rest.gathered)
  same_collected whole rest all late did h k =
      IsPermutation-trans (all ++ whole.gathered) (effects_in whole.lives) (late ++ rest.gathered) (IsPermutation-sym (effects_in whole.lives) (all ++ whole.gathered) h)
      (subst (λ (es : List Effect). IsPermutation es (late ++ rest.gathered)) (same-effects whole.lives rest.lives did) k)

  pub same_in_order : (whole rest : NetValue N) (all late : List Effect) → AllZip (DidTheSame g) whole.lives rest.lives
      → HasGathered all whole → whole.gathered ≡ [] → AreRising all → HasGathered late rest → rest.gathered ≡ [] → AreSorted late → late ≡ all
  same_in_order whole rest all late did h none rising k none' sorted =
      sorted_is all late rising
      (subst (λ (es : List Effect). IsPermutation es late) (ap (λ (es : List Effect). all ++ es) none ∙ append-nil all)
      (subst (λ (es : List Effect). IsPermutation (all ++ whole.gathered) es) (ap (λ (es : List Effect). late ++ es) none' ∙ append-nil late)
      (same_collected whole rest all late did h k)))
      sorted
