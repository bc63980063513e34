-- Inputs that stand in order are what came at each port.
use Rattle.std.proofs.Common.{◌≡◌, ℕ, suc, ◌≤◌, ◌<◌, ◌==◌, true, false, cond, filter, List, [], ◌∷◌, ◌++◌, map, get_or, drop, refl, sym, ap, subst, ◌∙◌, inl, inr, ⊎_elim, arith}
use Rattle.std.proofs.lemmas.Bool.Decides.{nat_tests}
use Rattle.std.proofs.lemmas.List.{map-append}
use Rattle.std.proofs.lemmas.List.Elements.{filter-append}
use Rattle.kap_base.specs.declared.items.Item.{Item}
use Rattle.node_core.specs.Meaning.{Input}
use Rattle.task_run.specs.Merging.{merged}
use Rattle.task_run.specs.Order.{AreOrdered, Precedes, PrecedesAll, from_port}
use Rattle.task_run.proofs.OrderLaws.{merged_has, merged_ordered}
use Rattle.task_run.specs.Growth.{merged_up_to}
use Rattle.task_run.specs.Stamps.{IsStream, StampsFrom, StampsRise, StampsUpTo, of_input, of_item}
use Rattle.task_run.specs.StampLaws.{from_append, up_to_append}
use Rattle.task_run.proofs.OrderLaws.{precedes-append}

-- ---- what came at a port

pub port-append : (k : ℕ) (xs ys : List Input) → from_port k (xs ++ ys) ≡ from_port k xs ++ from_port k ys
port-append k xs ys = rw (filter-append, map-append) refl

own-port : (x : Input) (xs : List Input) → from_port x.0 (x ∷ xs) ≡ x.1 ∷ from_port x.0 xs
own-port x xs = let same : (x.0 == x.0) ≡ true = grind (arith, nat_tests) in rw same refl

-- equal lists begin with the same
pub head_same : {A : Type 0} (x y : A) (xs ys : List A) → x ∷ xs ≡ y ∷ ys → x ≡ y
head_same {A} x y xs ys e = ap (λ (l : List A). get_or l 0 x) e

-- what stands before all of a list stands before what came first at a port
listed : (y : Input) (ys : List Input) (k : ℕ) (i : Item) (is : List Item) → PrecedesAll y ys → from_port k ys ≡ i ∷ is → Precedes y (k, i)
listed y [] k i is h e = absurd cc
listed y (z ∷ ys) k i is h e = elim (z.0 == k) as (λ b. (z.0 == k) ≡ b → map (λ (x : Input). x.1) (cond b (z ∷ filter (λ (x : Input). x.0 == k) ys) (filter (λ (x : Input). x.0 == k) ys)) ≡ i ∷ is → Precedes y (k, i)) [
  | true ↦ λ t f.
      let port : z.0 ≡ k = grind (arith, nat_tests) in
      let item : z.1 ≡ i = head_same z.1 i _ is f in
      subst (λ (x : Item). Precedes y (k, x)) item (subst (λ (p : ℕ). Precedes y (p, z.1)) port h.0)
  | false ↦ λ t f. listed y ys k i is h.1 f
] refl e

first-precedes : (y : Input) (ys : List Input) (k : ℕ) (i : Item) (is : List Item) → AreOrdered (y ∷ ys) → from_port k (y ∷ ys) ≡ i ∷ is → Precedes y (k, i)
first-precedes y ys k i is a e = listed y (y ∷ ys) k i is (inr (refl, omega arith), a.0) e

one-port : (x y : Input) → Precedes x y → Precedes y x → x.0 ≡ y.0
one-port x y a b = ⊎_elim
    (λ (lt : x.1.stamp.0 < y.1.stamp.0). ⊎_elim
    (λ (gt : y.1.stamp.0 < x.1.stamp.0). absurd (omega arith))
    (λ (same : (y.1.stamp.0 ≡ x.1.stamp.0) × (y.0 ≤ x.0)). let e : y.1.stamp.0 ≡ x.1.stamp.0 = same.0 in absurd (omega arith))
    b)
    (λ (same : (x.1.stamp.0 ≡ y.1.stamp.0) × (x.0 ≤ y.0)). ⊎_elim
    (λ (gt : y.1.stamp.0 < x.1.stamp.0). let e : x.1.stamp.0 ≡ y.1.stamp.0 = same.0 in absurd (omega arith))
    (λ (back : (y.1.stamp.0 ≡ x.1.stamp.0) × (y.0 ≤ x.0)). let up : x.0 ≤ y.0 = same.1 in let down : y.0 ≤ x.0 = back.1 in omega arith)
    b)
    a

same-rest : (k : ℕ) (x : Input) (xs ys : List Input) → from_port k (x ∷ xs) ≡ from_port k (x ∷ ys) → from_port k xs ≡ from_port k ys
same-rest k x xs ys e = elim (x.0 == k) as (λ b. map (λ (z : Input). z.1) (cond b (x ∷ filter (λ (z : Input). z.0 == k) xs) (filter (λ (z : Input). z.0 == k) xs)) ≡ map (λ (z : Input). z.1) (cond b (x ∷ filter (λ (z : Input). z.0 == k) ys) (filter (λ (z : Input). z.0 == k) ys)) → from_port k xs ≡ from_port k ys) [
  | true ↦ λ f. ap (drop 1) f
  | false ↦ λ f. f
] e

no-more : (x : Input) (xs : List Input) → from_port x.0 (x ∷ xs) ≡ [] → ⊥
no-more x xs e = let f : x.1 ∷ from_port x.0 xs ≡ [] = sym (own-port x xs) ∙ e in absurd cc

-- lists of inputs in order, of which the same came at each port, are the same
pub same_by_ports : (xs ys : List Input) → AreOrdered xs → AreOrdered ys → ((k : ℕ) → from_port k xs ≡ from_port k ys) → xs ≡ ys
same_by_ports [] [] a b h = refl
same_by_ports [] (y ∷ ys) a b h = absurd (no-more y ys (sym (h y.0)))
same_by_ports (x ∷ xs) [] a b h = absurd (no-more x xs (h x.0))
same_by_ports (x ∷ xs) (y ∷ ys) a b h =
    let here : from_port x.0 (y ∷ ys) ≡ x.1 ∷ from_port x.0 xs = sym (h x.0) ∙ own-port x xs in
    let there : from_port y.0 (x ∷ xs) ≡ y.1 ∷ from_port y.0 ys = h y.0 ∙ own-port y ys in
    let port : x.0 ≡ y.0 = one-port x y (first-precedes x xs y.0 y.1 (from_port y.0 ys) a there) (first-precedes y ys x.0 x.1 (from_port x.0 xs) b here) in
    let item : x.1 ≡ y.1 = head_same x.1 y.1 (from_port x.0 xs) (from_port x.0 ys) (sym here ∙ subst (λ (k : ℕ). from_port k (y ∷ ys) ≡ y.1 ∷ from_port k ys) (sym port) (own-port y ys)) in
    let same : x ≡ y = ap (λ (k : ℕ). (k, x.1)) port ∙ ap (λ (i : Item). (y.0, i)) item in
    let rest : (k : ℕ) → from_port k xs ≡ from_port k ys = λ k. same-rest k x xs ys (h k ∙ ap (λ (z : Input). from_port k (z ∷ ys)) (sym same)) in
    ap (λ (z : Input). z ∷ xs) same ∙ ap (λ (l : List Input). y ∷ l) (same_by_ports xs ys a.1 b.1 rest)

-- ---- the stamps of inputs

rest-from : (s k : ℕ) (x : Input) (xs : List Input) → StampsFrom of_item s (from_port k (x ∷ xs)) → StampsFrom of_item s (from_port k xs)
rest-from s k x xs h = elim (x.0 == k) as (λ b. StampsFrom of_item s (map (λ (z : Input). z.1) (cond b (x ∷ filter (λ (z : Input). z.0 == k) xs) (filter (λ (z : Input). z.0 == k) xs))) → StampsFrom of_item s (from_port k xs)) [
  | true ↦ λ f. f.1
  | false ↦ λ f. f
] h

-- where at no port a stamp is below this one, none is
pub from_by_ports : (s : ℕ) (xs : List Input) → ((k : ℕ) → StampsFrom of_item s (from_port k xs)) → StampsFrom of_input s xs
from_by_ports s [] h = tt
from_by_ports s (x ∷ xs) h =
    let own : StampsFrom of_item s (x.1 ∷ from_port x.0 xs) = subst (λ (l : List Item). StampsFrom of_item s l) (own-port x xs) (h x.0) in
    (own.0, from_by_ports s xs (λ k. rest-from s k x xs (h k)))

precedes-from : (s : ℕ) (x : Input) (xs : List Input) → s ≤ x.1.stamp.0 → PrecedesAll x xs → StampsFrom of_input s xs
precedes-from s x [] le h = tt
precedes-from s x (y ∷ xs) le h = (
  ⊎_elim (λ (p : x.1.stamp.0 < y.1.stamp.0). omega arith) (λ (q : (x.1.stamp.0 ≡ y.1.stamp.0) × (x.0 ≤ y.0)). let same = q.0 in omega arith) h.0,
  precedes-from s x xs le h.1,
)

-- in order, stamps don't fall
pub ordered_rises : (xs : List Input) → AreOrdered xs → StampsRise of_input xs
ordered_rises [] h = tt
ordered_rises (x ∷ xs) h = (precedes-from x.1.stamp.0 x xs (omega arith) h.0, ordered_rises xs h.1)

-- ---- one list behind the other

precedes-later : (n : ℕ) (x : Input) (ys : List Input) → x.1.stamp.0 ≤ n → StampsFrom of_input (suc n) ys → PrecedesAll x ys
precedes-later n x [] le h = tt
precedes-later n x (y ∷ ys) le h = let low : suc n ≤ y.1.stamp.0 = h.0 in (inl (omega arith), precedes-later n x ys le h.1)

ordered-behind : (n : ℕ) (xs ys : List Input) → StampsUpTo of_input n xs → AreOrdered xs → StampsFrom of_input (suc n) ys → AreOrdered ys → AreOrdered (xs ++ ys)
ordered-behind n [] ys le a from b = b
ordered-behind n (x ∷ xs) ys le a from b = (precedes-append x xs ys a.0 (precedes-later n x ys le.0 from), ordered-behind n xs ys le.1 a.1 from b)

module _ {A : Type 0} (stamp_of : A → ℕ) where
  -- what has no stamp below one has none below a lower one
  pub from_less : (s t : ℕ) (zs : List A) → s ≤ t → StampsFrom stamp_of t zs → StampsFrom stamp_of s zs
  from_less s t [] le h = tt
  from_less s t (z ∷ zs) le h = let low : t ≤ stamp_of z = h.0 in (omega arith, from_less s t zs le h.1)

  rises-behind : (n : ℕ) (xs ys : List A) → StampsUpTo stamp_of n xs → StampsRise stamp_of xs → StampsFrom stamp_of (suc n) ys → StampsRise stamp_of ys → StampsRise stamp_of (xs ++ ys)
  rises-behind n [] ys le a from b = b
  rises-behind n (x ∷ xs) ys le a from b =
      let low : stamp_of x ≤ n = le.0 in
      (from_append stamp_of (stamp_of x) xs ys a.0 (from_less (stamp_of x) (suc n) ys (omega arith) from), rises-behind n xs ys le.1 a.1 from b)

  wider : (n m : ℕ) (xs : List A) → n ≤ m → StampsUpTo stamp_of n xs → StampsUpTo stamp_of m xs
  wider n m [] le h = tt
  wider n m (x ∷ xs) le h = let low : stamp_of x ≤ n = h.0 in (omega arith, wider n m xs le h.1)

  -- what has the stamps up to n, and behind it what has those up to m
  pub record IsSpan (n m : ℕ) (old more : List A) : Type 0 where
    pub low : IsStream stamp_of n old
    pub high : IsStream stamp_of m more
    pub above : StampsFrom stamp_of (suc n) more

  -- has the stamps up to m
  pub span_stream : (n m : ℕ) (old more : List A) → n ≤ m → IsSpan n m old more → IsStream stamp_of m (old ++ more)
  span_stream n m old more le s = record {
    from_one = from_append stamp_of 1 old more s.low.from_one s.high.from_one;
    up_to = up_to_append stamp_of m old more (wider n m old le s.low.up_to) s.high.up_to;
    rising = rises-behind n old more s.low.up_to s.low.rising s.above s.high.rising;
  }

-- ---- merged lists that grow

-- a list that grew by items with stamps above n and up to m
pub record GrowsBy (n m : ℕ) (old more new : List Item) : Type 0 where
  pub span : IsSpan of_item n m old more
  pub is : new ≡ old ++ more

-- what is added has stamps above n
pub merged_above : (n m : ℕ) (olds mores news : List (List Item)) → ((k : ℕ) → GrowsBy n m (get_or olds k []) (get_or mores k []) (get_or news k [])) → StampsFrom of_input (suc n) (merged m mores)
merged_above n m olds mores news h = from_by_ports (suc n) (merged m mores) (λ k. subst (λ (l : List Item). StampsFrom of_item (suc n) l) (sym (merged_has m k mores (h k).span.high)) (h k).span.above)

-- merged lists grow by what is added to them, merged
pub merged_grows : (n m : ℕ) (olds mores news : List (List Item)) → n ≤ m → ((k : ℕ) → GrowsBy n m (get_or olds k []) (get_or mores k []) (get_or news k [])) → merged m news ≡ merged n olds ++ merged m mores
merged_grows n m olds mores news le h =
    same_by_ports (merged m news) (merged n olds ++ merged m mores)
    (merged_ordered m news)
    (ordered-behind n (merged n olds) (merged m mores) (merged_up_to n olds) (merged_ordered n olds) (merged_above n m olds mores news h) (merged_ordered m mores))
    (λ k. let g = h k in
    let new : IsStream of_item m (get_or news k []) = subst (λ (l : List Item). IsStream of_item m l) (sym g.is) (span_stream of_item n m (get_or olds k []) (get_or mores k []) le g.span) in
    merged_has m k news new ∙ g.is ∙ sym (port-append k (merged n olds) (merged m mores) ∙ rw (merged_has n k olds g.span.low, merged_has m k mores g.span.high) refl))
