-- Sorted effects that are those of a rising list are this list.
use Rattle.std.proofs.Common.{◌≡◌, ℕ, ◌<◌, Bool, true, false, ◌&&◌, ◌==◌, List, [], ◌∷◌, IsPermutation, refl, sym, ap, subst, ◌∙◌, inl, inr, ⊎_elim, arith}
use Rattle.std.specs.Prelude.{◌⊎◌}
use Rattle.std.specs.List.{AllByRecursion as Each, IsDistinct}
use Rattle.std.proofs.lemmas.Bool.{cases_Bool}
use Rattle.std.proofs.lemmas.Bool.Decides.{nat_tests}
use Rattle.std.proofs.lemmas.List.Sorted.{All-permutation, IsPermutation-sym}
use Rattle.std.proofs.lemmas.Map.Keys.{IsDistinct-IsPermutation}
use Rattle.std.proofs.lemmas.List.Elements.{All-from_recursion, recursion_from_All}
use Rattle.kap_base.specs.declared.items.Effect.{Effect}
use Rattle.flow_core.specs.Sorting.{AreRising, AreSorted, By, GoesBefore, GoesFirst, NoneFirst}
use Rattle.flow_core.proofs.SortLaws.{by_other, never_both}

-- ---- places

-- two effects stand at one place
abbrev pub is_same : Effect → Effect → Bool
is_same a b = (a.stamp.0 == b.stamp.0) && (a.life == b.life) && (a.node == b.node) && (a.seq == b.seq)

-- the test takes them in either order
pub same_flips : (a b : Effect) → is_same a b ≡ is_same b a
same_flips a b =
    let s : (a.stamp.0 == b.stamp.0) ≡ (b.stamp.0 == a.stamp.0) = grind (arith, nat_tests) in
    let l : (a.life == b.life) ≡ (b.life == a.life) = grind (arith, nat_tests) in
    let n : (a.node == b.node) ≡ (b.node == a.node) = grind (arith, nat_tests) in
    let q : (a.seq == b.seq) ≡ (b.seq == a.seq) = grind (arith, nat_tests) in
    rw (s, l, n, q) refl

same-here : (a b : Effect) → a.stamp.0 ≡ b.stamp.0 → a.life ≡ b.life → a.node ≡ b.node → a.seq ≡ b.seq → is_same a b ≡ true
same-here a b s l n q =
    let s' : (a.stamp.0 == b.stamp.0) ≡ true = grind (arith, nat_tests) in
    let l' : (a.life == b.life) ≡ true = grind (arith, nat_tests) in
    let n' : (a.node == b.node) ≡ true = grind (arith, nat_tests) in
    let q' : (a.seq == b.seq) ≡ true = grind (arith, nat_tests) in
    rw (s', l', n', q') refl

last-below : (a b : ℕ) → (a ≡ b → ⊥) → (b < a → ⊥) → a < b
last-below a b other back = ⊎_elim
    (λ (lt : a < b). lt)
    (λ (e : (a ≡ b) × ⊥). absurd e.1)
    (by_other a b ⊥ ⊥ (λ same q. absurd (other same)) (λ h. ⊎_elim (λ (gt : b < a). back gt) (λ (e : (b ≡ a) × ⊥). absurd e.1) h))

-- where an effect isn't behind another and not at its place, it goes before it
first-other : (a b : Effect) → (GoesFirst b a → ⊥) → is_same a b ≡ false → GoesFirst a b
first-other a b back other =
    by_other a.stamp.0 b.stamp.0 _ _ (λ s. by_other a.life b.life _ _ (λ l. by_other a.node b.node _ _ (λ n. last-below a.seq b.seq (λ q. let t : is_same a b ≡ true = same-here a b s l n q in cc)))) back

first-apart : (a b : Effect) → GoesFirst a b → is_same a b ≡ false
first-apart a b h = ⊎_elim
    (λ (t : is_same a b ≡ true). absurd (never_both a b h (flipped t)))
    (λ (f : is_same a b ≡ false). f)
    (cases_Bool (is_same a b))
  where
    flipped : is_same a b ≡ true → GoesFirst b a
    flipped t =
        let s : a.stamp.0 ≡ b.stamp.0 = grind (arith, nat_tests) in
        let l : a.life ≡ b.life = grind (arith, nat_tests) in
        let n : a.node ≡ b.node = grind (arith, nat_tests) in
        let q : a.seq ≡ b.seq = grind (arith, nat_tests) in
        moved s l n q h
      where
        moved : a.stamp.0 ≡ b.stamp.0 → a.life ≡ b.life → a.node ≡ b.node → a.seq ≡ b.seq → GoesFirst a b → GoesFirst b a
        moved s l n q g = ⊎_elim
            (λ (lt : a.stamp.0 < b.stamp.0). absurd (omega (arith, lt, s)))
            (λ (e : (a.stamp.0 ≡ b.stamp.0) × By a.life b.life (By a.node b.node (a.seq < b.seq))). ⊎_elim
            (λ (lt : a.life < b.life). absurd (omega (arith, lt, l)))
            (λ (f : (a.life ≡ b.life) × By a.node b.node (a.seq < b.seq)). ⊎_elim
            (λ (lt : a.node < b.node). absurd (omega (arith, lt, n)))
            (λ (k : (a.node ≡ b.node) × (a.seq < b.seq)). let lt : a.seq < b.seq = k.1 in absurd (omega (arith, lt, q)))
            f.1)
            e.1)
            g

-- no two of a rising list stand at one place
pub rising_distinct : (xs : List Effect) → AreRising xs → IsDistinct is_same xs
unfolding IsDistinct
rising_distinct [] h = tt
rising_distinct (x ∷ xs) h = (apart x xs h.0, rising_distinct xs h.1)
  where
    apart : (a : Effect) (ys : List Effect) → GoesBefore a ys → Each (λ b. is_same a b ≡ false) ys
    apart a [] k = tt
    apart a (y ∷ ys) k = (first-apart a y k.0, apart a ys k.1)

distinct-rising : (xs : List Effect) → AreSorted xs → IsDistinct is_same xs → AreRising xs
unfolding IsDistinct
distinct-rising [] h d = tt
distinct-rising (x ∷ xs) h d = (before x xs h.0 d.0, distinct-rising xs h.1 d.1)
  where
    before : (a : Effect) (ys : List Effect) → NoneFirst a ys → Each (λ b. is_same a b ≡ false) ys → GoesBefore a ys
    before a [] k e = tt
    before a (y ∷ ys) k e = (first-other a y k.0 e.0, before a ys k.1 e.1)

-- ---- the same effects

-- it is one of these
abbrev pub IsIn : Effect → List Effect → Type 0
IsIn z [] = ⊥
IsIn z (x ∷ xs) = (z ≡ x) ⊎ IsIn z xs

-- each is in its list
pub in_itself : (xs : List Effect) → Each (λ z. IsIn z xs) xs
in_itself [] = tt
in_itself (x ∷ xs) = (inl refl, wider x xs xs (in_itself xs))
  where
    wider : (y : Effect) (ys zs : List Effect) → Each (λ z. IsIn z ys) zs → Each (λ z. IsIn z (y ∷ ys)) zs
    wider y ys [] h = tt
    wider y ys (z ∷ zs) h = (inr h.0, wider y ys zs h.1)

-- what goes before all goes before each
pub in_before : (a z : Effect) (xs : List Effect) → GoesBefore a xs → IsIn z xs → GoesFirst a z
in_before a z [] h i = absurd i
in_before a z (x ∷ xs) h i = ⊎_elim (λ (e : z ≡ x). subst (λ (y : Effect). GoesFirst a y) (sym e) h.0) (λ (r : IsIn z xs). in_before a z xs h.1 r) i

-- without the first one, which goes before these
in-rest : (x : Effect) (xs zs : List Effect) → GoesBefore x zs → Each (λ z. IsIn z (x ∷ xs)) zs → Each (λ z. IsIn z xs) zs
in-rest x xs [] h i = tt
in-rest x xs (z ∷ zs) h i = (
  ⊎_elim (λ (e : z ≡ x). absurd (let k : GoesFirst x x = subst (λ (y : Effect). GoesFirst x y) e h.0 in never_both x x k k)) (λ (r : IsIn z xs). r) i.0,
  in-rest x xs zs h.1 i.1,
)

rising-same : (xs ys : List Effect) → AreRising xs → AreRising ys → Each (λ z. IsIn z xs) ys → Each (λ z. IsIn z ys) xs → ys ≡ xs
rising-same [] [] a b i j = refl
rising-same [] (y ∷ ys) a b i j = absurd i.0
rising-same (x ∷ xs) [] a b i j = absurd j.0
rising-same (x ∷ xs) (y ∷ ys) a b i j =
    let same : y ≡ x = ⊎_elim
    (λ (e : y ≡ x). e)
    (λ (r : IsIn y xs). ⊎_elim
    (λ (e : x ≡ y). sym e)
    (λ (q : IsIn x ys). absurd (never_both x y (in_before x y xs a.0 r) (in_before y x ys b.0 q)))
    j.0)
    i.0 in
    let here : GoesBefore x ys = subst (λ (z : Effect). GoesBefore z ys) same b.0 in
    let these : Each (λ z. IsIn z (x ∷ ys)) xs = subst (λ (q : Effect). Each (λ z. IsIn z (q ∷ ys)) xs) same j.1 in
    ap (λ (z : Effect). z ∷ ys) same ∙ ap (λ (l : List Effect). x ∷ l) (rising-same xs ys a.1 b.1 (in-rest x xs ys here i.1) (in-rest x ys xs a.0 these))

-- what holds of each of them holds in any order
pub shuffled : (P : Effect → Type 0) (xs ys : List Effect) → IsPermutation xs ys → Each P xs → Each P ys
shuffled P xs ys s h = recursion_from_All P ys (All-permutation P xs ys s (All-from_recursion P xs h))

-- a list of the same effects that is sorted is the rising one
pub sorted_is : (xs ys : List Effect) → AreRising xs → IsPermutation xs ys → AreSorted ys → ys ≡ xs
sorted_is xs ys rising same sorted =
    rising-same xs ys rising
    (distinct-rising ys sorted (IsDistinct-IsPermutation is_same same_flips xs ys same (rising_distinct xs rising)))
    (shuffled (λ z. IsIn z xs) xs ys same (in_itself xs))
    (shuffled (λ z. IsIn z ys) ys xs (IsPermutation-sym xs ys same) (in_itself ys))
