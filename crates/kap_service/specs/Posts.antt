-- What doors tell behind serving.
use Rattle.std.specs.Prelude.{◌≡◌, ℕ, ◌+◌, ◌-◌, ◌^◌, ⊤, min, List, [], ◌∷◌, Option, Some, None}

-- no link is left, where the door tells
abbrev pub IsClosed : Option ℕ → Option ℕ → Type 0
IsClosed None now = ⊤
IsClosed (Some n) now = now ≡ Some 0

-- so many links came, where it is told how many there were; the count stands still at the end of its type
abbrev pub CameAll : Option ℕ → ℕ → Type 0
CameAll None links = ⊤
CameAll (Some n) links = links ≡ min n (2 ^ 64 - 1)

-- the sum of two numbers, where both are told
abbrev pub told_sum : Option ℕ → Option ℕ → Option ℕ
told_sum None now = None
told_sum (Some n) None = None
told_sum (Some n) (Some m) = Some (n + m)

-- how many links are still to come at all doors, where all tell
unfoldable pub links_at : {P : Type 0} → (P → Option ℕ) → List P → Option ℕ
links_at left [] = Some 0
links_at left (p ∷ ps) = told_sum (left p) (links_at left ps)

-- so many links came since, where the door tells
abbrev pub CameSince : Option ℕ → Option ℕ → ℕ → Type 0
CameSince None now links = ⊤
CameSince (Some n) None links = ⊥
CameSince (Some n) (Some m) links = (k : ℕ) × (n ≡ m + k) × (links ≡ min k (2 ^ 64 - 1))
