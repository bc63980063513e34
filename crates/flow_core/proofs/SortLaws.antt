-- Sorted effects that are those of a list which rises are that list.
use Rattle.std.proofs.Common.{◌≡◌, ℕ, suc, ◌+◌, ◌<◌, Bool, true, false, List, [], ◌∷◌, get_or, IsSortedBy, Ordering, Less, Equal, is_lt, nat_cmp, sym, ap, subst, ◌∙◌, inl, inr, ⊎_elim, arith}
use Rattle.std.specs.Prelude.{⊤}
use Rattle.std.specs.Ordering.{ordering_then}
use Rattle.std.specs.Cmp.{nat_cmp_is}
use Rattle.std.proofs.lemmas.Bool.{cases_order}
use Rattle.kap_base.specs.declared.items.Effect.{Effect}
use Rattle.flow_core.specs.Sorting.{AreSorted, By, GoesFirst, NoneFirst}

-- ---- one number after the other

by-not : (a b : ℕ) (R Q : Type 0) → (R → Q → ⊥) → By a b R → By b a Q → ⊥
by-not a b R Q rest h k = ⊎_elim
    (λ (lt : a < b). ⊎_elim (λ (gt : b < a). omega (arith, lt, gt)) (λ (e : (b ≡ a) × Q). let same : b ≡ a = e.0 in omega (arith, lt, same)) k)
    (λ (e : (a ≡ b) × R). let same : a ≡ b = e.0 in ⊎_elim (λ (gt : b < a). omega (arith, gt, same)) (λ (f : (b ≡ a) × Q). rest e.1 f.1) k)
    h

by-trans : (a b c : ℕ) (R Q T : Type 0) → (R → (Q → ⊥) → T) → By a b R → (By c b Q → ⊥) → By a c T
by-trans a b c R Q T rest h back = ⊎_elim
    (λ (same : b ≡ c). ⊎_elim
    (λ (lt : a < b). inl (omega (arith, lt, same)))
    (λ (e : (a ≡ b) × R). inr (e.0 ∙ same, rest e.1 (λ q. back (inr (sym same, q)))))
    h)
    (λ apart. ⊎_elim
    (λ (lt : b < c). ⊎_elim (λ (l : a < b). inl (omega (arith, l, lt))) (λ (e : (a ≡ b) × R). let same : a ≡ b = e.0 in inl (omega (arith, same, lt))) h)
    (λ (gt : c < b). absurd (back (inl gt)))
    apart)
    (cases_order b c)

-- the other way round
pub by_other : (a b : ℕ) (R Q : Type 0) → (a ≡ b → (Q → ⊥) → R) → (By b a Q → ⊥) → By a b R
by_other a b R Q rest back = ⊎_elim
    (λ (same : a ≡ b). inr (same, rest same (λ q. back (inr (sym same, q)))))
    (λ apart. ⊎_elim (λ (lt : a < b). inl lt) (λ (gt : b < a). absurd (back (inl gt))) apart)
    (cases_order a b)

-- ---- effects

-- of two effects not each goes before the other
pub never_both : (a b : Effect) → GoesFirst a b → GoesFirst b a → ⊥
never_both a b = by-not a.stamp.0 b.stamp.0 _ _ (by-not a.life b.life _ _ (by-not a.node b.node _ _ (λ (lt : a.seq < b.seq) (gt : b.seq < a.seq). omega (arith, lt, gt))))

-- what goes before one goes before what doesn't go before that
first-trans : (a b c : Effect) → GoesFirst a b → (GoesFirst c b → ⊥) → GoesFirst a c
first-trans a b c = by-trans a.stamp.0 b.stamp.0 c.stamp.0 _ _ _ (by-trans a.life b.life c.life _ _ _ (by-trans a.node b.node c.node _ _ _ last))
  where
    last : a.seq < b.seq → (c.seq < b.seq → ⊥) → a.seq < c.seq
    last lt back = ⊎_elim
        (λ (same : b.seq ≡ c.seq). omega (arith, lt, same))
        (λ apart. ⊎_elim (λ (up : b.seq < c.seq). omega (arith, lt, up)) (λ (down : c.seq < b.seq). absurd (back down)) apart)
        (cases_order b.seq c.seq)

-- ---- what a sort ensures

is-first : Ordering → Ordering → Ordering → Ordering → Bool
is-first a b c d = is_lt (ordering_then (ordering_then (ordering_then a b) c) d)

first-tests : (a b : Effect) → GoesFirst a b → is_lt (ordering_then (ordering_then (ordering_then (nat_cmp a.stamp.0 b.stamp.0) (nat_cmp a.life b.life)) (nat_cmp a.node b.node)) (nat_cmp a.seq b.seq)) ≡ true
unfolding is-first
first-tests a b h =
    let s = nat_cmp a.stamp.0 b.stamp.0 in
    let l = nat_cmp a.life b.life in
    let n = nat_cmp a.node b.node in
    let q = nat_cmp a.seq b.seq in
    ⊎_elim
    (λ (lt : a.stamp.0 < b.stamp.0). ap (λ (o : Ordering). is-first o l n q) (sym (nat_cmp_is a.stamp.0 b.stamp.0 Less lt)))
    (λ (e : (a.stamp.0 ≡ b.stamp.0) × By a.life b.life (By a.node b.node (a.seq < b.seq))).
    ap (λ (o : Ordering). is-first o l n q) (sym (nat_cmp_is a.stamp.0 b.stamp.0 Equal e.0))
    ∙ ⊎_elim
    (λ (lt : a.life < b.life). ap (λ (o : Ordering). is-first Equal o n q) (sym (nat_cmp_is a.life b.life Less lt)))
    (λ (f : (a.life ≡ b.life) × By a.node b.node (a.seq < b.seq)).
    ap (λ (o : Ordering). is-first Equal o n q) (sym (nat_cmp_is a.life b.life Equal f.0))
    ∙ ⊎_elim
    (λ (lt : a.node < b.node). ap (λ (o : Ordering). is-first Equal Equal o q) (sym (nat_cmp_is a.node b.node Less lt)))
    (λ (g : (a.node ≡ b.node) × (a.seq < b.seq)).
    ap (λ (o : Ordering). is-first Equal Equal o q) (sym (nat_cmp_is a.node b.node Equal g.0))
    ∙ ap (λ (o : Ordering). is-first Equal Equal Equal o) (sym (nat_cmp_is a.seq b.seq Less g.1)))
    f.1)
    e.1)
    h

-- each isn't behind the next one
abbrev AreAdjacent : List Effect → Type 0
AreAdjacent [] = ⊤
AreAdjacent (a ∷ []) = ⊤
AreAdjacent (a ∷ b ∷ effects) = (GoesFirst b a → ⊥) × AreAdjacent (b ∷ effects)

-- what isn't behind one isn't behind those that aren't behind that
none-through : (a b : Effect) (effects : List Effect) → (GoesFirst b a → ⊥) → NoneFirst b effects → NoneFirst a effects
none-through a b [] h k = tt
none-through a b (c ∷ effects) h k = ((λ first. k.0 (first-trans c a b first h)), none-through a b effects h k.1)

adjacent-sorted : (effects : List Effect) → AreAdjacent effects → AreSorted effects
adjacent-sorted [] h = tt
adjacent-sorted (a ∷ []) h = (tt, tt)
adjacent-sorted (a ∷ b ∷ effects) h =
    let rest = adjacent-sorted (b ∷ effects) h.1 in
    ((h.0, none-through a b effects h.0 rest.0), rest)

module _ (lt : Effect → Effect → Bool) (tests : (a b : Effect) → GoesFirst a b → lt a b ≡ true) where
  tests-adjacent : (effects : List Effect) → IsSortedBy lt effects → AreAdjacent effects
  tests-adjacent [] h = tt
  tests-adjacent (a ∷ []) h = tt
  tests-adjacent (a ∷ b ∷ effects) h = (
    (λ first. let t : lt b a ≡ true = tests b a first in let f : lt b a ≡ false = h 0 a (omega arith) (omega arith) in cc),
    tests-adjacent (b ∷ effects) (λ k d low high. let same : suc k + 1 ≡ suc (k + 1) = omega arith in subst (λ (j : ℕ). lt (get_or (a ∷ b ∷ effects) j d) (get_or (b ∷ effects) k d) ≡ false) same (h (suc k) d (omega arith) (omega arith))),
  )

-- what a sort by places ensures
pub sorted_by_places : (effects : List Effect) → IsSortedBy (λ a b. is_lt (ordering_then (ordering_then (ordering_then (nat_cmp a.stamp.0 b.stamp.0) (nat_cmp a.life b.life)) (nat_cmp a.node b.node)) (nat_cmp a.seq b.seq))) effects → AreSorted effects
sorted_by_places effects h = adjacent-sorted effects (tests-adjacent (λ a b. is_lt (ordering_then (ordering_then (ordering_then (nat_cmp a.stamp.0 b.stamp.0) (nat_cmp a.life b.life)) (nat_cmp a.node b.node)) (nat_cmp a.seq b.seq))) first-tests effects h)
