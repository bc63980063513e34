-- Sorting by rank: what it does to a least entry, and where the messages of lists in order stand.
use Rattle.std.proofs.Common.{◌≡◌, ℕ, ◌+◌, ◌*◌, ◌<◌, ◌≤◌, leb, true, false, cond, List, [], ◌∷◌, ◌++◌, refl, ap, ◌∙◌, arith}
use Rattle.std.specs.Prelude.{⊤}
use Rattle.std.proofs.lemmas.Bool.{le-leb, lt-leb, cond-true, cond-false}
use Rattle.kap_base.specs.declared.items.Stamp.{Stamp}
use Rattle.kap_base.specs.declared.items.Msg.{Msg}
use Rattle.kap_base.specs.declared.items.Msg.TheVariants as messages
use Rattle.merge_node.specs.Merge.{Lists, Entry, rank, items, barriers, of_parent, of_barriers, items_from, placed, sorted, RisesFrom}

-- each stands at this rank or behind it
abbrev pub AllAbove : ℕ → List Entry → Type 0
AllAbove r [] = ⊤
AllAbove r (x ∷ xs) = (r ≤ rank x.1) × AllAbove r xs

-- where the entries of two lists all stand at a rank or behind it, those of both together do
pub above-append : (r : ℕ) (xs ys : List Entry) → AllAbove r xs → AllAbove r ys → AllAbove r (xs ++ ys)
above-append r [] ys a b = b
above-append r (x ∷ xs) ys a b = (a.0, above-append r xs ys a.1 b)

-- where entries stand at a rank or behind it, they stand so for each lower rank
pub above-less : (r s : ℕ) (xs : List Entry) → r ≤ s → AllAbove s xs → AllAbove r xs
above-less r s [] le a = tt
above-less r s (x ∷ xs) le a = let h : s ≤ rank x.1 = a.0 in (omega (arith, h, le), above-less r s xs le a.1)

-- where entries and one more stand at a rank or behind it, they do when the one is put among them
pub above-placed : (r : ℕ) (x : Entry) (ys : List Entry) → r ≤ rank x.1 → AllAbove r ys → AllAbove r (placed x ys)
above-placed r x [] h a = (h, tt)
above-placed r x (y ∷ ys) h a = elim (leb (rank x.1) (rank y.1)) as (λ t. AllAbove r (cond t (x ∷ y ∷ ys) (y ∷ placed x ys))) [
  | true ↦ (h, a)
  | false ↦ (a.0, above-placed r x ys h a.1)
]

-- sorted entries stand at a rank or behind it where the entries do
pub above-sorted : (r : ℕ) (xs : List Entry) → AllAbove r xs → AllAbove r (sorted xs)
above-sorted r [] a = tt
above-sorted r (x ∷ xs) a = above-placed r x (sorted xs) a.0 (above-sorted r xs a.1)

-- an entry that stands before all others, or with them, is put in front of them
pub placed-low : (x : Entry) (ys : List Entry) → AllAbove (rank x.1) ys → placed x ys ≡ x ∷ ys
placed-low x [] a = refl
placed-low x (y ∷ ys) a = cond-true (leb (rank x.1) (rank y.1)) (x ∷ y ∷ ys) (y ∷ placed x ys) (le-leb (rank x.1) (rank y.1) a.0)

placed-high : (p x : Entry) (ys : List Entry) → rank x.1 < rank p.1 → placed p (x ∷ ys) ≡ x ∷ placed p ys
placed-high p x ys h = cond-false (leb (rank p.1) (rank x.1)) (p ∷ x ∷ ys) (x ∷ placed p ys) (lt-leb (rank p.1) (rank x.1) h)

-- an entry that stands before all, strictly before those in front of it, comes first
pub sorted-front : (pre : List Entry) (x : Entry) (post : List Entry) → AllAbove (rank x.1 + 1) pre → AllAbove (rank x.1) post → sorted (pre ++ x ∷ post) ≡ x ∷ sorted (pre ++ post)
sorted-front [] x post a b = placed-low x (sorted post) (above-sorted (rank x.1) post b)
sorted-front (p ∷ pre) x post a b =
    let h : rank x.1 + 1 ≤ rank p.1 = a.0 in
    ap (placed p) (sorted-front pre x post a.1 b) ∙ placed-high p x (sorted (pre ++ post)) (omega (arith, h))

-- ---- lists in order

-- a list in order from a rank on is in order from each lower rank on
pub rises-less : (r s : ℕ) (l : List Msg) → r ≤ s → RisesFrom s l → RisesFrom r l
rises-less r s [] le h = tt
rises-less r s (m ∷ l) le h = let k : s ≤ rank m = h.0 in (omega (arith, k, le), h.1)

-- the items of a list in order from a rank on stand at it or behind it
pub above-items : (k r : ℕ) (l : List Msg) → RisesFrom r l → AllAbove r (of_parent k (items l))
above-items k r [] h = tt
above-items k r (messages.Item x ∷ l) h = (h.0, above-items k r l (rises-less r (rank (messages.Item x)) l h.0 h.1))
above-items k r (messages.Barrier b ∷ l) h = above-items k r l (rises-less r (rank (messages.Barrier b)) l h.0 h.1)

-- the barriers of a list in order from a rank on stand at it or behind it
pub above-barriers : (r : ℕ) (l : List Msg) → RisesFrom r l → AllAbove r (of_barriers (barriers l))
above-barriers r [] h = tt
above-barriers r (messages.Item x ∷ l) h = above-barriers r l (rises-less r (rank (messages.Item x)) l h.0 h.1)
above-barriers r (messages.Barrier b ∷ l) h = (h.0, above-barriers r l (rises-less r (rank (messages.Barrier b)) l h.0 h.1))

-- an item's rank is even, a barrier's is odd
pub above-odd : (s : ℕ) (bs : List Stamp) → AllAbove (2 * s) (of_barriers bs) → AllAbove (2 * s + 1) (of_barriers bs)
above-odd s [] a = tt
above-odd s (b ∷ bs) a = let h : 2 * s ≤ 2 * b.0 + 1 = a.0 in (omega (arith, h), above-odd s bs a.1)

-- each list is in order from this rank on
abbrev pub AllRise : ℕ → Lists → Type 0
AllRise r [] = ⊤
AllRise r (l ∷ ls) = RisesFrom r l × AllRise r ls

-- the items of lists in order from a rank on stand at it or behind it, from whichever parent
pub above-items_from : (k r : ℕ) (ls : Lists) → AllRise r ls → AllAbove r (items_from k ls)
above-items_from k r [] h = tt
above-items_from k r (l ∷ ls) h = above-append r (of_parent k (items l)) (items_from (k + 1) ls) (above-items k r l h.0) (above-items_from (k + 1) r ls h.1)
