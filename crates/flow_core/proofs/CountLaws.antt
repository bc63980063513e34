-- Counts of cells, one after the other.
use Rattle.std.proofs.Common.{◌≡◌, ℕ, zero, suc, ◌<◌, List, [], ◌∷◌, ◌++◌, Some, length, map, take, refl, ap, arith}
use Rattle.std.specs.Prelude.{slice_get}

-- the count of one more
pub counted_more : {C : Type 0} (f : C → ℕ) (cells : List C) (n count : ℕ) → n < length cells → ((c : C) → slice_get cells n ≡ Some c → count ≡ f c)
    → map f (take n cells) ++ count ∷ [] ≡ map f (take (suc n) cells)
counted_more f [] n count lt is = absurd (omega (arith, lt))
counted_more f (c ∷ cells) zero count lt is = ap (λ (m : ℕ). m ∷ []) (is c refl)
counted_more f (c ∷ cells) (suc n) count lt is = ap (λ (ns : List ℕ). f c ∷ ns) (counted_more f cells n count (omega (arith, lt)) is)
