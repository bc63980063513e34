-- Numbers that are searched.
use Rattle.std.specs.Prelude.{◌≡◌, ℕ, ◌==◌, List}
use Rattle.std.specs.List.{list_any}
use Rattle.std.specs.List.Sorted.{IsNonDecreasing}

-- the same numbers, in order
pub record IsSortedOf (numbers sorted : List ℕ) : Type 0 where
  pub order : IsNonDecreasing sorted
  pub same : (number : ℕ) → list_any (λ n. n == number) sorted ≡ list_any (λ n. n == number) numbers
