-- Lists of messages merged as a whole.
use Rattle.std.specs.Prelude.{◌≡◌, ◌≢◌, ℕ, ◌+◌, ◌*◌, ◌<◌, ◌≤◌, ◌⊎◌, ⊤, nat_le, ◌==◌, if◌then◌else◌, List, [], ◌∷◌, ◌++◌, map, slice_index_or}
use Rattle.std.specs.List.{AllByRecursion as Each}
use Rattle.kap_base.specs.declared.items.Stamp.{Stamp}
use Rattle.kap_base.specs.declared.items.Msg.{Msg}
use Rattle.kap_base.specs.declared.items.Msg.TheVariants as messages

-- of each parent its messages, in their order
abbrev pub Lists : Type 0
Lists = List (List Msg)

-- a message, behind the number of its parent
abbrev pub Entry : Type 0
Entry = ℕ × Msg

-- where a message stands: by its stamp, and a barrier behind the items with its stamp
abbrev pub rank : Msg → ℕ
rank (messages.Item x) = 2 * x.stamp.0
rank (messages.Barrier b) = 2 * b.0 + 1

-- the items of a list
abbrev pub items : List Msg → List Msg
items [] = []
items (messages.Item x ∷ l) = messages.Item x ∷ items l
items (messages.Barrier b ∷ l) = items l

-- the stamps of its barriers
abbrev pub barriers : List Msg → List Stamp
barriers [] = []
barriers (messages.Item x ∷ l) = barriers l
barriers (messages.Barrier b ∷ l) = b ∷ barriers l

-- messages of one parent
abbrev pub of_parent : ℕ → List Msg → List Entry
of_parent k l = map (λ m. (k, m)) l

-- barriers, as the first parent has them
abbrev pub of_barriers : List Stamp → List Entry
of_barriers bs = map (λ b. (0, messages.Barrier b)) bs

-- the items of parents that are numbered from here on, one parent after the other
abbrev pub items_from : ℕ → Lists → List Entry
items_from k [] = []
items_from k (l ∷ ls) = of_parent k (items l) ++ items_from (k + 1) ls

-- what is to be merged: each barrier once, and the items of all parents
abbrev pub gathered : Lists → List Entry
gathered ls = of_barriers (barriers (slice_index_or ls 0 [])) ++ items_from 0 ls

-- put into a sorted list, before what has the same rank
abbrev pub placed : Entry → List Entry → List Entry
placed x [] = x ∷ []
placed x (y ∷ ys) = if nat_le (rank x.1) (rank y.1) then x ∷ y ∷ ys else y ∷ placed x ys

-- sorted by rank; what has the same rank stays in its order
abbrev pub sorted : List Entry → List Entry
sorted [] = []
sorted (x ∷ xs) = placed x (sorted xs)

-- the lists merged: by stamp, then by parent, then by place, and each barrier once, behind the items up to it
unfoldable pub merge : Lists → List Entry
merge ls = sorted (gathered ls)

-- ---- which lists can be merged

-- no message stands before an earlier one, from this rank on: stamps don't fall, and behind a barrier they are above
-- its own
abbrev pub RisesFrom : ℕ → List Msg → Type 0
RisesFrom r [] = ⊤
RisesFrom r (m ∷ l) = (r ≤ rank m) × RisesFrom (rank m) l

-- each list is in order, and all have these barriers
abbrev pub AreMergeable : List Stamp → Lists → Type 0
AreMergeable bs [] = ⊤
AreMergeable bs (l ∷ ls) = ((barriers l ≡ bs) × RisesFrom 0 l) × AreMergeable bs ls

-- a barrier stands behind each item
abbrev pub IsClosed : List Msg → Type 0
IsClosed [] = ⊤
IsClosed (messages.Item x ∷ l) = (barriers l ≢ []) × IsClosed l
IsClosed (messages.Barrier b ∷ l) = IsClosed l

-- a barrier stands behind each item of each list
abbrev pub AreClosed : Lists → Type 0
AreClosed [] = ⊤
AreClosed (l ∷ ls) = IsClosed l × AreClosed ls

-- a list with these barriers, and one behind each item
pub record IsClosedBy (bs : List Stamp) (l : List Msg) : Type 0 where
  pub barriers : barriers l ≡ bs
  pub closed : IsClosed l

-- so of each list
abbrev pub AllClosedBy : List Stamp → Lists → Type 0
AllClosedBy bs ls = Each (IsClosedBy bs) ls

-- ---- the order of a merged list

-- an entry stands before each of others: it has a lower rank, or the same one and no later parent
abbrev pub PrecedesAll : Entry → List Entry → Type 0
PrecedesAll x [] = ⊤
PrecedesAll x (y ∷ ys) = ((rank x.1 < rank y.1) ⊎ ((rank x.1 ≡ rank y.1) × (x.0 ≤ y.0))) × PrecedesAll x ys

-- each entry stands before all that follow it
abbrev pub AreOrdered : List Entry → Type 0
AreOrdered [] = ⊤
AreOrdered (x ∷ xs) = PrecedesAll x xs × AreOrdered xs

-- what a parent gave of a merged list: its items, and each barrier
abbrev pub from_parent : ℕ → List Entry → List Msg
from_parent k [] = []
from_parent k ((p, messages.Item x) ∷ xs) = if p == k then messages.Item x ∷ from_parent k xs else from_parent k xs
from_parent k ((p, messages.Barrier b) ∷ xs) = messages.Barrier b ∷ from_parent k xs
