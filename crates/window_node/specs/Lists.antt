-- Filters, and the last points of a list.
use Rattle.std.specs.Prelude.{◌≡◌, ℕ, ◌+◌, ◌-◌, ◌≤◌, ◌&&◌, Bool, true, false, cond, List, [], ◌∷◌, ◌++◌, filter, length, drop, refl}
use Rattle.std.specs.Prelude.{ℤ, ◌≤ℤ◌, ◌<ℤ◌, int_le, int_lt}
use Rattle.std.proofs.Common.{sym, ap, ◌∙◌, arith, length-append}
use Rattle.std.proofs.lemmas.Int.{ints}
use Rattle.std.proofs.lemmas.List.{map-append, drop-drop, drop-append-le, length-drop}
use Rattle.kap_base.specs.Points.{PointValue}
use Rattle.node_core.specs.Groups.{Came}
use Rattle.window_node.specs.Batches.{points_in, last}

-- ---- tests on whole numbers

-- a test of two times that is true, as a fact
pub le_fact : (a b : ℤ) → int_le a b ≡ true → a ≤ℤ b
le_fact a b e = grind (arith, ints)

-- and the fact as the test
pub le_test : (a b : ℤ) → a ≤ℤ b → int_le a b ≡ true
le_test a b h = grind (arith, ints)

-- a test that is false
pub above_fact : (a b : ℤ) → int_le a b ≡ false → b <ℤ a
above_fact a b e = grind (arith, ints)

-- and as the test
pub above_test : (a b : ℤ) → b <ℤ a → int_le a b ≡ false
above_test a b h = grind (arith, ints)

-- the strict test
pub lt_fact : (a b : ℤ) → int_lt a b ≡ true → a <ℤ b
lt_fact a b e = grind (arith, ints)

-- and as the test
pub lt_test : (a b : ℤ) → a <ℤ b → int_lt a b ≡ true
lt_test a b h = grind (arith, ints)

-- the first of two tests that are both true
pub and_first : (a b : Bool) → (a && b) ≡ true → a ≡ true
and_first true b e = refl
and_first false b e = e

-- what holds of both holds of one of them
pub one_of : (P : ℤ → Type 0) (b : Bool) (x y : ℤ) → P x → P y → P (cond b x y)
one_of P true x y p q = p
one_of P false x y p q = q

-- ---- filters

no_both : (b : Bool) → b ≡ true → b ≡ false → ⊥
no_both b t f = absurd cc

not_passed : (b : Bool) → (b ≡ true → ⊥) → b ≡ false
not_passed true h = absurd (h refl)
not_passed false h = refl

-- a filter behind a wider one is the filter alone
pub filter_twice : {A : Type 0} (p q : A → Bool) → ((x : A) → p x ≡ true → q x ≡ true) → (xs : List A)
    → filter p (filter q xs) ≡ filter p xs
filter_twice p q implied [] = refl
filter_twice p q implied (x ∷ xs) =
    elim (q x) as (λ b. q x ≡ b → filter p (cond b (x ∷ filter q xs) (filter q xs)) ≡ filter p (x ∷ xs)) [
      | true ↦ λ e. ap (λ l. cond (p x) (x ∷ l) l) (filter_twice p q implied xs)
      | false ↦ λ e. filter_twice p q implied xs
          ∙ ap (λ b. cond b (x ∷ filter p xs) (filter p xs))
          (sym (not_passed (p x) (λ t. no_both (q x) (implied x t) e)))
    ] refl

-- ---- points

-- the points of what came, and of one point more
pub points_more : (before : List Came) (port : ℕ) (p : PointValue)
    → points_in (before ++ (port, p) ∷ []) ≡ points_in before ++ p ∷ []
points_more before port p = map-append (λ (c : Came). c.1) before ((port, p) ∷ [])

-- the last points of a list are the last ones of its last points, of which no fewer are left
module _ {A : Type 0} where
  -- the last points, and one point more
  pub last_more : (a b : ℕ) (xs : List A) (p : A) → a ≤ b + 1 → last a (last b xs ++ p ∷ []) ≡ last a (xs ++ p ∷ [])
  last_more a b xs p le =
      let n = length xs in
      let within : n - b ≤ n = omega arith in
      let front : drop (n - b) xs
      ++ p ∷ [] ≡ drop (n - b) (xs ++ p ∷ []) = sym (drop-append-le (n - b) xs (p ∷ []) within) in
      let long : length (xs ++ p ∷ []) ≡ n + 1 = length-append xs (p ∷ []) in
      let short : length (drop (n - b) (xs ++ p ∷ [])) ≡ n + 1 - (n - b) = length-drop (n - b) (xs ++ p ∷ [])
      ∙ ap (λ (k : ℕ). k - (n - b)) long in
      let count : (n - b) + (n + 1 - (n - b) - a) ≡ n + 1 - a = omega arith in
      ap (λ (l : List A). last a l) front
      ∙ ap (λ (k : ℕ). drop (k - a) (drop (n - b) (xs ++ p ∷ []))) short
      ∙ drop-drop (n + 1 - (n - b) - a) (n - b) (xs ++ p ∷ [])
      ∙ ap (λ (k : ℕ). drop k (xs ++ p ∷ [])) count
      ∙ ap (λ (k : ℕ). drop (k - a) (xs ++ p ∷ [])) (sym long)
