-- Numbers that are searched.
use Rattle.std.proofs.Common.{◌≡◌, ℕ, ◌<◌, ◌==◌, true, false, List, get_or, sym, subst, arith, Result, Ok, Err, is_ok, ⊎_elim}
use Rattle.std.proofs.lemmas.Bool.{cases_lt}
use Rattle.std.proofs.lemmas.Bool.Decides.{nat_tests}
use Rattle.std.proofs.lemmas.List.{get_or_default}
use Rattle.std.proofs.lemmas.List.Folds.{list_any_at, list_any_none}
use Rattle.std.proofs.lemmas.List.Sorted.{IsNonDecreasingBy-from_sort, list_any-IsPermutation, searched}
use Rattle.std.specs.List.{list_any}
use Rattle.std.specs.List.Sorted.{IsBinarySearchResult, IsNonDecreasing, IsPermutation, IsSorted}
use Rattle.std.specs.Ordering.{nat_cmp}
use Rattle.conn_loop.specs.Numbers.{IsSortedOf}

pub sorted_of : (xs ys : List ℕ) → IsPermutation xs ys → IsSorted nat_cmp ys → IsSortedOf xs ys
sorted_of xs ys moved up = record {
  order = IsNonDecreasingBy-from_sort (λ x. x) ys up;
  same = λ number. sym (list_any-IsPermutation (λ n. n == number) xs ys moved);
}

is_same : (n x : ℕ) → n ≡ x → (n == x) ≡ true
is_same n x e = grind (arith, nat_tests)

is_less : (n x : ℕ) → n < x → (n == x) ≡ false
is_less n x e = grind (arith, nat_tests)

is_more : (n x : ℕ) → x < n → (n == x) ≡ false
is_more n x e = grind (arith, nat_tests)

-- a search in ordered numbers finds one that is there, and only such a one
pub among : (xs : List ℕ) (x : ℕ) (r : Result ℕ ℕ) → IsBinarySearchResult (λ y. nat_cmp y x) xs r → IsNonDecreasing xs
    → is_ok r ≡ list_any (λ n. n == x) xs
among xs x (Ok i) h up =
    let s = searched xs x (Ok i) h (λ i j le lt. up i j 0 le lt) in
    sym (list_any_at (λ n. n == x) xs i 0 s.0 (is_same (get_or xs i 0) x s.1))
among xs x (Err i) h up =
    let s = searched xs x (Err i) h (λ i j le lt. up i j 0 le lt) in
    sym (list_any_none (λ n. n == x) xs (λ k d lt.
    subst (λ y. (y == x) ≡ false) (sym (get_or_default xs k d 0 lt)) (
    ⊎_elim (λ l. is_less (get_or xs k 0) x (s.1 k l)) (λ l. is_more (get_or xs k 0) x (s.2 k l lt)) (cases_lt k i))))
