-- Where a name ends.
use Rattle.std.proofs.Common.{◌≡◌, ℕ, ◌≤◌, Bool, true, false, cond, not, List, Option, Some, None, length, refl, arith, ltb}
use Rattle.std.specs.Prelude.{position}
use Rattle.std.specs.List.{position_or_len}
use Rattle.std.proofs.lemmas.Bool.{ltb-false}
use Rattle.std.proofs.lemmas.List.Sums.{prefix_len-le-length}

-- where no byte passes, the place is the length
pub none_passes : (p : ℕ → Bool) (xs : List ℕ) → None ≡ position p xs → length xs ≡ position_or_len p xs
none_passes p xs e =
    elim (ltb (position_or_len p xs) (length xs)) as (λ t. ltb (position_or_len p xs) (length xs) ≡ t → ◌≡◌ {A = Option ℕ} None (cond t (Some (position_or_len p xs)) None) → length xs ≡ position_or_len p xs) [
      | true ↦ λ _ e. absurd cc
      | false ↦ λ t _. let le : length xs ≤ position_or_len p xs = ltb-false _ _ t in omega (arith, prefix_len-le-length (λ x. not (p x)) xs)
    ] refl e
