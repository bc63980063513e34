-- A merged list stands in order, and has of each parent just what it sent.
use Rattle.std.proofs.Common.{◌≡◌, ℕ, zero, suc, ◌+◌, ◌*◌, ◌<◌, ◌≤◌, Bool, true, false, cond, eqb, leb, List, [], ◌∷◌, ◌++◌, map, length, refl, sym, ap, ◌∙◌, append-nil, inl, inr, ⊎_elim, arith}
use Rattle.std.specs.Prelude.{⊤, ◌⊎◌, slice_index_or}
use Rattle.std.specs.List.{filter}
use Rattle.std.proofs.lemmas.Bool.{leb-true, leb-false, lt-leb, cond-true, cond-false, eq-eqb, ne_eqb, cases_order}
use Rattle.std.proofs.lemmas.List.Elements.{filter-append}
use Rattle.kap_base.specs.declared.items.Stamp.{Stamp}
use Rattle.kap_base.specs.declared.items.Msg.{Msg}
use Rattle.kap_base.specs.declared.items.Msg.TheVariants as messages
use Rattle.merge_node.specs.Merge.{Lists, Entry, rank, items, barriers, of_parent, of_barriers, items_from, gathered, placed, sorted, merge, RisesFrom, AreMergeable, PrecedesAll, AreOrdered, from_parent}
use Rattle.merge_node.proofs.RankLaws.{AllAbove, above-append, above-less, above-odd, above-items, above-barriers, above-placed, placed-low, sorted-front}

-- ---- in order

-- each of the same rank comes from no earlier parent
abbrev AllTie : Entry → List Entry → Type 0
AllTie x [] = ⊤
AllTie x (y ∷ ys) = (rank x.1 ≡ rank y.1 → x.0 ≤ y.0) × AllTie x ys

abbrev TiesRise : List Entry → Type 0
TiesRise [] = ⊤
TiesRise (x ∷ xs) = AllTie x xs × TiesRise xs

tie-placed : (x y : Entry) (ys : List Entry) → (rank x.1 ≡ rank y.1 → x.0 ≤ y.0) → AllTie x ys → AllTie x (placed y ys)
tie-placed x y [] h a = (h, tt)
tie-placed x y (z ∷ ys) h a = elim (leb (rank y.1) (rank z.1)) as (λ t. AllTie x (cond t (y ∷ z ∷ ys) (z ∷ placed y ys))) [
  | true ↦ (h, a)
  | false ↦ (a.0, tie-placed x y ys h a.1)
]

tie-sorted : (x : Entry) (xs : List Entry) → AllTie x xs → AllTie x (sorted xs)
tie-sorted x [] a = tt
tie-sorted x (y ∷ ys) a = tie-placed x y (sorted ys) a.0 (tie-sorted x ys a.1)

before-by : (x y : Entry) → rank x.1 ≤ rank y.1 → (rank x.1 ≡ rank y.1 → x.0 ≤ y.0) → (rank x.1 < rank y.1) ⊎ ((rank x.1 ≡ rank y.1) × (x.0 ≤ y.0))
before-by x y le tie = ⊎_elim
    (λ same. inr (same, tie same))
    (λ apart. ⊎_elim (λ lt. inl lt) (λ gt. absurd (omega (arith, le, gt))) apart)
    (cases_order (rank x.1) (rank y.1))

precedes-above : (x : Entry) (ys : List Entry) → AllAbove (rank x.1) ys → AllTie x ys → PrecedesAll x ys
precedes-above x [] a t = tt
precedes-above x (y ∷ ys) a t = (before-by x y a.0 t.0, precedes-above x ys a.1 t.1)

precedes-placed : (z x : Entry) (ys : List Entry) → rank z.1 < rank x.1 → PrecedesAll z ys → PrecedesAll z (placed x ys)
precedes-placed z x [] h a = (inl h, tt)
precedes-placed z x (y ∷ ys) h a = elim (leb (rank x.1) (rank y.1)) as (λ t. PrecedesAll z (cond t (x ∷ y ∷ ys) (y ∷ placed x ys))) [
  | true ↦ (inl h, a)
  | false ↦ (a.0, precedes-placed z x ys h a.1)
]

above-precedes : (x : Entry) (ys : List Entry) → PrecedesAll x ys → AllAbove (rank x.1) ys
above-precedes x [] h = tt
above-precedes x (y ∷ ys) h =
    (⊎_elim (λ lt. omega (arith, lt)) (λ same. let e : rank x.1 ≡ rank y.1 = same.0 in omega (arith, e)) h.0, above-precedes x ys h.1)

ordered-placed : (x : Entry) (ys : List Entry) → AllTie x ys → AreOrdered ys → AreOrdered (placed x ys)
ordered-placed x [] t o = (tt, tt)
ordered-placed x (y ∷ ys) t o = elim (leb (rank x.1) (rank y.1)) as (λ b. leb (rank x.1) (rank y.1) ≡ b → AreOrdered (cond b (x ∷ y ∷ ys) (y ∷ placed x ys))) [
  | true ↦ λ e.
      let le : rank x.1 ≤ rank y.1 = leb-true _ _ e in
      (precedes-above x (y ∷ ys) (le, above-less (rank x.1) (rank y.1) ys le (above-precedes y ys o.0)) t, o)
  | false ↦ λ e. (precedes-placed y x ys (leb-false _ _ e) o.0, ordered-placed x ys t.1 o.1)
] refl

ordered-sorted : (xs : List Entry) → TiesRise xs → AreOrdered (sorted xs)
ordered-sorted [] h = tt
ordered-sorted (x ∷ xs) h = ordered-placed x (sorted xs) (tie-sorted x xs h.0) (ordered-sorted xs h.1)

-- each comes from this parent or a later one
abbrev AllFrom : ℕ → List Entry → Type 0
AllFrom k [] = ⊤
AllFrom k (x ∷ xs) = (k ≤ x.0) × AllFrom k xs

from-append : (k : ℕ) (xs ys : List Entry) → AllFrom k xs → AllFrom k ys → AllFrom k (xs ++ ys)
from-append k [] ys a b = b
from-append k (x ∷ xs) ys a b = (a.0, from-append k xs ys a.1 b)

from-parent : (k n : ℕ) (l : List Msg) → k ≤ n → AllFrom k (of_parent n l)
from-parent k n [] le = tt
from-parent k n (m ∷ l) le = (le, from-parent k n l le)

from-items : (k n : ℕ) (ls : Lists) → k ≤ n → AllFrom k (items_from n ls)
from-items k n [] le = tt
from-items k n (l ∷ ls) le = from-append k (of_parent n (items l)) (items_from (n + 1) ls) (from-parent k n (items l) le) (from-items k (n + 1) ls (omega arith))

tie-from : (x : Entry) (xs : List Entry) → AllFrom x.0 xs → AllTie x xs
tie-from x [] h = tt
tie-from x (y ∷ ys) h = ((λ _. h.0), tie-from x ys h.1)

ties-parent : (k : ℕ) (l : List Msg) (rest : List Entry) → AllFrom k rest → TiesRise rest → TiesRise (of_parent k l ++ rest)
ties-parent k [] rest from h = h
ties-parent k (m ∷ l) rest from h = (tie-from (k, m) (of_parent k l ++ rest) (from-append k (of_parent k l) rest (from-parent k k l (omega arith)) from), ties-parent k l rest from h)

ties-items : (k : ℕ) (ls : Lists) → TiesRise (items_from k ls)
ties-items k [] = tt
ties-items k (l ∷ ls) = ties-parent k (items l) (items_from (k + 1) ls) (from-items k (k + 1) ls (omega arith)) (ties-items (k + 1) ls)

ties-barriers : (bs : List Stamp) (rest : List Entry) → TiesRise rest → TiesRise (of_barriers bs ++ rest)
ties-barriers [] rest h = h
ties-barriers (b ∷ bs) rest h = (tie-from (0, messages.Barrier b) (of_barriers bs ++ rest) (from-zero (of_barriers bs ++ rest)), ties-barriers bs rest h)
  where
    from-zero : (xs : List Entry) → AllFrom 0 xs
    from-zero [] = tt
    from-zero (x ∷ xs) = (omega arith, from-zero xs)

-- by stamp, then by parent, and a barrier behind the items up to it
pub merge_ordered : (ls : Lists) → AreOrdered (merge ls)
unfolding merge
merge_ordered ls = ordered-sorted (gathered ls) (ties-barriers (barriers (slice_index_or ls 0 [])) (items_from 0 ls) (ties-items 0 ls))

-- ---- of each parent

-- an entry is of a parent: an item of its own, or a barrier
abbrev is_of : ℕ → Entry → Bool
is_of k (p, messages.Item x) = eqb p k
is_of k (p, messages.Barrier b) = true

from-filter : (k : ℕ) (xs : List Entry) → from_parent k xs ≡ map (λ e. e.1) (filter (is_of k) xs)
from-filter k [] = refl
from-filter k ((p, messages.Item x) ∷ xs) = elim (eqb p k) as (λ t. cond t (messages.Item x ∷ from_parent k xs) (from_parent k xs) ≡ map (λ e. e.1) (cond t ((p, messages.Item x) ∷ filter (is_of k) xs) (filter (is_of k) xs))) [
  | true ↦ ap (λ (l : List Msg). messages.Item x ∷ l) (from-filter k xs)
  | false ↦ from-filter k xs
]
from-filter k ((p, messages.Barrier b) ∷ xs) = ap (λ (l : List Msg). messages.Barrier b ∷ l) (from-filter k xs)

-- ranks don't fall
abbrev Rises : List Entry → Type 0
Rises [] = ⊤
Rises (x ∷ xs) = AllAbove (rank x.1) xs × Rises xs

rises-placed : (x : Entry) (ys : List Entry) → Rises ys → Rises (placed x ys)
rises-placed x [] h = (tt, tt)
rises-placed x (y ∷ ys) h = elim (leb (rank x.1) (rank y.1)) as (λ b. leb (rank x.1) (rank y.1) ≡ b → Rises (cond b (x ∷ y ∷ ys) (y ∷ placed x ys))) [
  | true ↦ λ e. let le : rank x.1 ≤ rank y.1 = leb-true _ _ e in ((le, above-less (rank x.1) (rank y.1) ys le h.0), h)
  | false ↦ λ e. let lt : rank y.1 < rank x.1 = leb-false _ _ e in (above-placed (rank y.1) x ys (omega (arith, lt)) h.0, rises-placed x ys h.1)
] refl

rises-sorted : (xs : List Entry) → Rises (sorted xs)
rises-sorted [] = tt
rises-sorted (x ∷ xs) = rises-placed x (sorted xs) (rises-sorted xs)

above-filter : (t : Entry → Bool) (r : ℕ) (xs : List Entry) → AllAbove r xs → AllAbove r (filter t xs)
above-filter t r [] a = tt
above-filter t r (x ∷ xs) a = elim (t x) as (λ b. AllAbove r (cond b (x ∷ filter t xs) (filter t xs))) [
  | true ↦ (a.0, above-filter t r xs a.1)
  | false ↦ above-filter t r xs a.1
]

keep : (b c : Bool) (x y : Entry) (ys : List Entry) → placed x (y ∷ ys) ≡ y ∷ placed x ys
    → cond c (y ∷ cond b (placed x ys) ys) (cond b (placed x ys) ys) ≡ cond b (placed x (cond c (y ∷ ys) ys)) (cond c (y ∷ ys) ys)
keep true true x y ys h = sym h
keep true false x y ys h = refl
keep false true x y ys h = refl
keep false false x y ys h = refl

filter-placed : (t : Entry → Bool) (x : Entry) (ys : List Entry) → Rises ys → filter t (placed x ys) ≡ cond (t x) (placed x (filter t ys)) (filter t ys)
filter-placed t x [] h = refl
filter-placed t x (y ∷ ys) h = elim (leb (rank x.1) (rank y.1)) as (λ b. leb (rank x.1) (rank y.1) ≡ b → filter t (cond b (x ∷ y ∷ ys) (y ∷ placed x ys)) ≡ cond (t x) (placed x (filter t (y ∷ ys))) (filter t (y ∷ ys))) [
  | true ↦ λ e.
      let le : rank x.1 ≤ rank y.1 = leb-true _ _ e in
      let low : AllAbove (rank x.1) (y ∷ ys) = (le, above-less (rank x.1) (rank y.1) ys le h.0) in
      ap (λ (l : List Entry). cond (t x) l (filter t (y ∷ ys))) (sym (placed-low x (filter t (y ∷ ys)) (above-filter t (rank x.1) (y ∷ ys) low)))
  | false ↦ λ e.
      let lt : rank y.1 < rank x.1 = leb-false _ _ e in
      ap (λ (l : List Entry). cond (t y) (y ∷ l) l) (filter-placed t x ys h.1)
      ∙ keep (t x) (t y) x y (filter t ys) (cond-false _ _ _ (lt-leb (rank x.1) (rank y.1) lt))
] refl

filter-sorted : (t : Entry → Bool) (xs : List Entry) → filter t (sorted xs) ≡ sorted (filter t xs)
filter-sorted t [] = refl
filter-sorted t (x ∷ xs) =
    filter-placed t x (sorted xs) (rises-sorted xs)
    ∙ ap (λ (l : List Entry). cond (t x) (placed x l) l) (filter-sorted t xs)
    ∙ (elim (t x) as (λ b. cond b (placed x (sorted (filter t xs))) (sorted (filter t xs)) ≡ sorted (cond b (x ∷ filter t xs) (filter t xs))) [
      | true ↦ refl
      | false ↦ refl
    ])

filter-barriers : (k : ℕ) (bs : List Stamp) → filter (is_of k) (of_barriers bs) ≡ of_barriers bs
filter-barriers k [] = refl
filter-barriers k (b ∷ bs) = ap (λ (l : List Entry). (0, messages.Barrier b) ∷ l) (filter-barriers k bs)

filter-own : (k : ℕ) (l : List Msg) → filter (is_of k) (of_parent k (items l)) ≡ of_parent k (items l)
filter-own k [] = refl
filter-own k (messages.Item x ∷ l) = cond-true _ _ _ (eq-eqb k k refl) ∙ ap (λ (r : List Entry). (k, messages.Item x) ∷ r) (filter-own k l)
filter-own k (messages.Barrier b ∷ l) = filter-own k l

filter-other : (k n : ℕ) (l : List Msg) → (n ≡ k → ⊥) → filter (is_of k) (of_parent n (items l)) ≡ []
filter-other k n [] ne = refl
filter-other k n (messages.Item x ∷ l) ne = cond-false _ _ _ (ne_eqb n k ne) ∙ filter-other k n l ne
filter-other k n (messages.Barrier b ∷ l) ne = filter-other k n l ne

filter-past : (k n : ℕ) (ls : Lists) → k < n → filter (is_of k) (items_from n ls) ≡ []
filter-past k n [] lt = refl
filter-past k n (l ∷ ls) lt =
    filter-append (is_of k) (of_parent n (items l)) (items_from (n + 1) ls)
    ∙ ap (λ (r : List Entry). r ++ filter (is_of k) (items_from (n + 1) ls)) (filter-other k n l (λ e. omega (arith, e, lt)))
    ∙ filter-past k (n + 1) ls (omega arith)

filter-items : (k n i : ℕ) (ls : Lists) → n + i ≡ k → filter (is_of k) (items_from n ls) ≡ of_parent k (items (slice_index_or ls i []))
filter-items k n i [] e = refl
filter-items k n zero (l ∷ ls) e =
    let same : n ≡ k = omega (arith, e) in
    filter-append (is_of k) (of_parent n (items l)) (items_from (n + 1) ls)
    ∙ ap (λ (r : List Entry). filter (is_of k) (of_parent n (items l)) ++ r) (filter-past k (n + 1) ls (omega (arith, same)))
    ∙ append-nil (filter (is_of k) (of_parent n (items l)))
    ∙ ap (λ (p : ℕ). filter (is_of k) (of_parent p (items l))) same ∙ filter-own k l
filter-items k n (suc i) (l ∷ ls) e =
    filter-append (is_of k) (of_parent n (items l)) (items_from (n + 1) ls)
    ∙ ap (λ (r : List Entry). r ++ filter (is_of k) (items_from (n + 1) ls)) (filter-other k n l (λ same. omega (arith, e, same)))
    ∙ filter-items k (n + 1) i ls (omega (arith, e))

-- a list, with its parent at each item
abbrev tagged : ℕ → List Msg → List Entry
tagged k [] = []
tagged k (messages.Item x ∷ l) = (k, messages.Item x) ∷ tagged k l
tagged k (messages.Barrier b ∷ l) = (0, messages.Barrier b) ∷ tagged k l

untagged : (k : ℕ) (l : List Msg) → map (λ e. e.1) (tagged k l) ≡ l
untagged k [] = refl
untagged k (messages.Item x ∷ l) = ap (λ (r : List Msg). messages.Item x ∷ r) (untagged k l)
untagged k (messages.Barrier b ∷ l) = ap (λ (r : List Msg). messages.Barrier b ∷ r) (untagged k l)

sorted-own : (k r : ℕ) (l : List Msg) → RisesFrom r l → sorted (of_barriers (barriers l) ++ of_parent k (items l)) ≡ tagged k l
sorted-own k r [] h = refl
sorted-own k r (messages.Item x ∷ l) h =
    sorted-front (of_barriers (barriers l)) (k, messages.Item x) (of_parent k (items l))
    (above-odd x.stamp.0 (barriers l) (above-barriers (2 * x.stamp.0) l h.1)) (above-items k (2 * x.stamp.0) l h.1)
    ∙ ap (λ (e : List Entry). (k, messages.Item x) ∷ e) (sorted-own k (2 * x.stamp.0) l h.1)
sorted-own k r (messages.Barrier b ∷ l) h =
    sorted-front [] (0, messages.Barrier b) (of_barriers (barriers l) ++ of_parent k (items l)) tt
    (above-append (2 * b.0 + 1) (of_barriers (barriers l)) (of_parent k (items l)) (above-barriers (2 * b.0 + 1) l h.1) (above-items k (2 * b.0 + 1) l h.1))
    ∙ ap (λ (e : List Entry). (0, messages.Barrier b) ∷ e) (sorted-own k (2 * b.0 + 1) l h.1)

own-list : (bs : List Stamp) (ls : Lists) (k : ℕ) → AreMergeable bs ls → k < length ls → (barriers (slice_index_or ls k []) ≡ bs) × RisesFrom 0 (slice_index_or ls k [])
own-list bs [] k are lt = absurd (omega arith)
own-list bs (l ∷ ls) zero are lt = are.0
own-list bs (l ∷ ls) (suc k) are lt = own-list bs ls k are.1 (omega arith)

-- of each parent its list
pub merge_has : (bs : List Stamp) (ls : Lists) (k : ℕ) → AreMergeable bs ls → k < length ls → from_parent k (merge ls) ≡ slice_index_or ls k []
unfolding merge
merge_has bs ls k are lt =
    let own = own-list bs ls k are lt in
    let first = own-list bs ls 0 are (omega arith) in
    let bars = of_barriers (barriers (slice_index_or ls 0 [])) in
    let l = slice_index_or ls k [] in
    from-filter k (sorted (gathered ls))
    ∙ ap (map (λ (e : Entry). e.1)) (filter-sorted (is_of k) (gathered ls))
    ∙ ap (λ (xs : List Entry). map (λ (e : Entry). e.1) (sorted xs)) (
    filter-append (is_of k) bars (items_from 0 ls)
    ∙ ap (λ (xs : List Entry). xs ++ filter (is_of k) (items_from 0 ls)) (filter-barriers k (barriers (slice_index_or ls 0 [])))
    ∙ ap (λ (xs : List Entry). bars ++ xs) (filter-items k 0 k ls (omega arith))
    ∙ ap (λ (b : List Stamp). of_barriers b ++ of_parent k (items l)) (first.0 ∙ sym own.0))
    ∙ ap (map (λ (e : Entry). e.1)) (sorted-own k 0 l own.1)
    ∙ untagged k l
