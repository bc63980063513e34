-- The sets of a join: of its parents' points, the set of number k has the k-th of each.
use Rattle.std.specs.Prelude.{ℕ, zero, suc, ◌==◌, max, Bool, not, List, [], ◌∷◌, map, filter, length, Option, is_some, slice_get}
use Rattle.std.specs.List.{list_all}
use Rattle.kap_base.specs.Points.{PointValue}
use Rattle.node_core.specs.Groups.{Came}

-- so many numbers, from one on
abbrev pub numbers_from : ℕ → ℕ → List ℕ
numbers_from k zero = []
numbers_from k (suc n) = k ∷ numbers_from (suc k) n

-- the points of a parent, in order
abbrev pub points_at : ℕ → List Came → List PointValue
points_at port cs = map (λ c. c.1) (filter (λ c. c.0 == port) cs)

-- of each parent its points, by the parents' numbers
abbrev pub Columns : Type 0
Columns = List (List PointValue)

-- of so many parents
abbrev pub columns : ℕ → List Came → Columns
columns parents cs = map (λ port. points_at port cs) (numbers_from 0 parents)

-- of each parent a point, if it is there
abbrev pub Set : Type 0
Set = List (Option PointValue)

-- the set of this number, of which the first is 0: each parent's point of this number
abbrev pub set_at : ℕ → Columns → Set
set_at k cols = map (λ ps. slice_get ps k) cols

-- how many points the parent has that has most
abbrev pub most : Columns → ℕ
most [] = 0
most (ps ∷ cols) = max (length ps) (most cols)

-- the sets, in order of their numbers
abbrev pub sets : Columns → List Set
sets cols = map (λ k. set_at k cols) (numbers_from 0 (most cols))

-- each parent's point is there
abbrev pub is_full : Set → Bool
is_full s = list_all is_some s

-- some parent's point is missing
abbrev pub is_open : Set → Bool
is_open s = not (is_full s)
