-- What holds of each life holds of the others when one ends.
use Rattle.std.proofs.Common.{zero, suc, ℕ, List, [], ◌∷◌}
use Rattle.std.specs.List.{AllByRecursion as Each, remove}

-- what holds of each holds of each of the others
pub each_remove : {A : Type 0} (P : A → Type 0) (xs : List A) (i : ℕ) → Each P xs → Each P (remove xs i)
each_remove P [] zero e = tt
each_remove P [] (suc i) e = tt
each_remove P (x ∷ xs) zero e = e.1
each_remove P (x ∷ xs) (suc i) e = (e.0, each_remove P xs i e.1)
