-- A look at the fronts of all buffers.
use Rattle.std.specs.Prelude.{ℕ, Bool, true, false, if◌then◌else◌, [], ◌∷◌, Option, Some, None}
use Rattle.merge_node.specs.Merge.{Lists}
use Rattle.merge_node.specs.declared.fronts.Front.{Front}
use Rattle.merge_node.specs.Buffers.{has_empty, lower, least}

-- the least item of the rest and the best so far, where each parent has something buffered
abbrev pub looked_from : Option Front → ℕ → Lists → Option (Option Front)
looked_from best k ls = if has_empty ls then None else Some (lower best (least k ls))

-- a look at all fronts: none where a parent has nothing buffered, else the least item, if there is one
abbrev pub looked : Lists → Option (Option Front)
looked ls = looked_from None 0 ls

-- there is one parent alone, which has nothing buffered
abbrev pub are_clear : Lists → Bool
are_clear [] = false
are_clear ([] ∷ []) = true
are_clear ([] ∷ (l ∷ ls)) = false
are_clear ((m ∷ l) ∷ ls) = false
