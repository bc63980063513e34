use Rattle.std.proofs.Common.{◌≡◌, ℕ, zero, suc, ◌<◌, List, [], ◌∷◌, ◌++◌, length, take, drop, refl, ap, arith, rules}
use Rattle.std.specs.Prelude.{slice_set}
use Rattle.eval_node.specs.Evaluations.{other_counts}
use Rattle.eval_node.proofs.counts.put_count.Goals as goal

written : (numbers : List ℕ) (place number : ℕ) → place < length numbers
    → slice_set numbers place number ≡ take place numbers ++ number ∷ other_counts (drop place numbers)
written [] place number within = absurd (omega arith)
written (n ∷ numbers) zero number within = refl
written (n ∷ numbers) (suc place) number within = ap (λ l. n ∷ l) (written numbers place number (omega arith))

pub returns-then-place-len : goal.returns-then-place-len
returns-then-place-len c = written c.args.numbers.now.items c.args.place c.args.number (search rules)
