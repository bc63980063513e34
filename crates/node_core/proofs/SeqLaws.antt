-- The number of an effect counts all effects that were given before with its stamp, where stamps don't fall.
use Rattle.std.proofs.Common.{◌≡◌, ℕ, ◌+◌, ◌≤◌, ◌==◌, true, false, cond, List, [], ◌∷◌, ◌++◌, map, length, refl, sym, ap, ◌∙◌, arith, add-zero, add_assoc}
use Rattle.std.proofs.lemmas.Bool.Decides.{nat_tests}
use Rattle.node_core.specs.declared.running.Tally.{Tally}
use Rattle.node_core.specs.Meaning.{Saying, Input}
use Rattle.node_core.specs.Numbering.{arrival, number_at, counted, given_with, no_tally, tally_after, tally}
use Rattle.node_core.specs.Cut.{AllFrom, AllUpTo, InOrder}

-- a test for no more
none : (more : ℕ) → (more == 0) ≡ true → more ≡ 0
none more e = grind (arith, nat_tests)

counted-number : (t : Tally) (now stamp more : ℕ) → t.stamp ≤ now → now ≤ stamp → number_at (counted t now more) stamp ≡ number_at t stamp + cond (now == stamp) more 0
counted-number t now stamp more low high = elim (more == 0) as (λ b. (more == 0) ≡ b → number_at (cond b t (record { stamp = now; count = number_at t now + more })) stamp ≡ number_at t stamp + cond (now == stamp) more 0) [
  | true ↦ λ e. rw (none more e) (elim (now == stamp) as (λ b. number_at t stamp ≡ number_at t stamp + cond b 0 0) [
    | true ↦ sym (add-zero _)
    | false ↦ sym (add-zero _)
  ])
  | false ↦ λ e. elim (now == stamp) as (λ b. (now == stamp) ≡ b → cond b (number_at t now + more) 0 ≡ number_at t stamp + cond b more 0) [
    | true ↦ λ e. let same : now ≡ stamp = grind (arith, nat_tests) in ap (λ (s : ℕ). number_at t s + more) same
    | false ↦ λ e. let other : (t.stamp == stamp) ≡ false = grind (arith, nat_tests) in rw other refl
  ] refl
] refl

counted-from : (t : Tally) (now more : ℕ) (xs : List Input) → AllFrom t.stamp xs → AllFrom now xs → AllFrom (counted t now more).stamp xs
counted-from t now more xs old new = elim (more == 0) as (λ b. AllFrom (cond b t (record { stamp = now; count = number_at t now + more })).stamp xs) [
  | true ↦ old
  | false ↦ new
]

number-after : (saying : Saying) (t : Tally) (before xs : List Input) (stamp : ℕ) → AllFrom t.stamp xs → InOrder xs → AllUpTo stamp xs → number_at (tally_after saying t before xs) stamp ≡ number_at t stamp + given_with stamp saying before xs
number-after saying t before [] stamp from ordered upto = sym (add-zero _)
number-after saying t before (x ∷ xs) stamp from ordered upto =
    let more = length (saying (map arrival before) (arrival x)).deeds in
    number-after saying (counted t x.1.stamp.0 more) (before ++ x ∷ []) xs stamp (counted-from t x.1.stamp.0 more xs from.1 ordered.0) ordered.1 upto.1
    ∙ ap (λ (n : ℕ). n + given_with stamp saying (before ++ x ∷ []) xs) (counted-number t x.1.stamp.0 stamp more from.0 upto.0)
    ∙ add_assoc (number_at t stamp) (cond (x.1.stamp.0 == stamp) more 0) (given_with stamp saying (before ++ x ∷ []) xs)

from-zero : (xs : List Input) → AllFrom 0 xs
from-zero [] = tt
from-zero (x ∷ xs) = (omega arith, from-zero xs)

none-before : (stamp : ℕ) → number_at no_tally stamp ≡ 0
none-before stamp = elim (0 == stamp) as (λ b. ◌≡◌ {A = ℕ} (cond b 0 0) 0) [
  | true ↦ refl
  | false ↦ refl
]

-- in a list whose stamps don't fall, the number of the next effect with a stamp is that of all effects with it before
pub numbers_count : (saying : Saying) (before : List Input) (stamp : ℕ) → InOrder before → AllUpTo stamp before → number_at (tally saying before) stamp ≡ given_with stamp saying [] before
numbers_count saying before stamp ordered upto =
    number-after saying no_tally [] before stamp (from-zero before) ordered upto
    ∙ rw none-before (zero-plus (given_with stamp saying [] before))
  where
    zero-plus : (n : ℕ) → 0 + n ≡ n
    zero-plus n = omega arith
