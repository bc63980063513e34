-- Where the first of a list stands that passes a test.
use Rattle.std.proofs.Common.{◌≡◌, ℕ, ◌+◌, ◌≤◌, Bool, true, false, not, cond, List, [], ◌∷◌, Option, Some, None, length, arith, refl, ltb}
use Rattle.std.specs.Prelude.{position}
use Rattle.std.specs.List.{position_or_len}
use Rattle.std.proofs.lemmas.Bool.{ltb-false}

-- it is at most the length
pub place_le : (p : ℕ → Bool) (xs : List ℕ) → position_or_len p xs ≤ length xs
place_le p [] = omega arith
place_le p (x ∷ xs) = elim (p x) as (λ b. cond (not b) (1 + position_or_len p xs) 0 ≤ length (x ∷ xs)) [ true ↦ omega arith | false ↦ omega (arith, place_le p xs) ]

-- where none was found, it is the length
pub none_place : (p : ℕ → Bool) (xs : List ℕ) → None ≡ position p xs → position_or_len p xs ≡ length xs
none_place p xs e =
    elim (ltb (position_or_len p xs) (length xs)) as (λ t. ltb (position_or_len p xs) (length xs) ≡ t → ◌≡◌ {A = Option ℕ} None (cond t (Some (position_or_len p xs)) None) → position_or_len p xs ≡ length xs) [
      | true ↦ λ _ e. absurd cc
      | false ↦ λ t _. let le : length xs ≤ position_or_len p xs = ltb-false _ _ t in omega (arith, place_le p xs)
    ] refl e
