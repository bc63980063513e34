-- How many links came.
use Rattle.std.proofs.Common.{◌≡◌, ℕ, suc, ◌+◌, ◌-◌, ◌<◌, ◌^◌, min, List, [], ◌∷◌, length, slice_index_or, refl, sym, subst, arith, Option, Some, None, Ok}
use Rattle.std.specs.List.{sum_by}
use Rattle.std.proofs.lemmas.List.Sums.{sum_by-cons}
use Rattle.kap_io.specs.Doors.{Admits}
use Rattle.kap_service.specs.Posts.{CameAll, CameSince, links_at, told_sum}

pub came_more : (L E : Type 0) (a b c : Option ℕ) (link : L) (k m : ℕ) → CameSince a b k
    → Admits {L = L} {E = E} b c (Ok (Some link)) → m ≡ min (k + 1) (2 ^ 64 - 1) → CameSince a c m
came_more L E None b c link k m s ad e = tt
came_more L E (Some n) None c link k m s ad e = absurd s
came_more L E (Some n) (Some x) c link k m s ad e =
    subst (λ (o : Option ℕ). CameSince (Some n) o m) (sym ad.1) (
      s.0 + 1,
      (let one = s.1 in let two = ad.2 in omega arith),
      (let three = s.2 in omega arith),
    )

-- ---- all doors

came_plus : (a b : Option ℕ) (m k : ℕ) → CameAll a m → CameAll b k → CameAll (told_sum a b) (min (m + k) (2 ^ 64 - 1))
came_plus None b m k one other = tt
came_plus (Some n) None m k one other = tt
came_plus (Some n) (Some o) m k one other = omega arith

-- So many links came at all doors as at each of them.
pub came_at_all : {P : Type 0} (left : P → Option ℕ) (links : P → ℕ) (xs ys : List P) → length ys ≡ length xs
    → ((i : ℕ) (d : P) → i < length xs → CameAll (left (slice_index_or xs i d)) (links (slice_index_or ys i d)))
    → CameAll (links_at left xs) (min (sum_by links ys) (2 ^ 64 - 1))
unfolding links_at
came_at_all left links [] [] same each = refl
came_at_all left links [] (y ∷ ys) same each = absurd (omega (arith, same))
came_at_all left links (x ∷ xs) [] same each = absurd (omega (arith, same))
came_at_all left links (x ∷ xs) (y ∷ ys) same each =
    let here = each 0 x (omega arith) in
    let rest = came_at_all left links xs ys (omega (arith, same)) (λ i d lt. each (suc i) d (omega (arith, lt))) in
    let both = came_plus (left x) (links_at left xs) (links y) (min (sum_by links ys) (2 ^ 64 - 1)) here rest in
    let sum = sum_by-cons links y ys in
    subst (λ (n : ℕ). CameAll (links_at left (x ∷ xs)) n) (omega (arith, sum)) both

-- what holds of two holds of their equals
pub carried : {P : Type 0} {a other b another : P} → a ≡ other → b ≡ another → (R : P → P → Type 0) → R a b
    → R other another
carried {P} {a} {other} {b} {another} one two R r = subst (λ x. R x another) one (subst (λ y. R a y) two r)
