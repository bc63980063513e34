-- In which order merged lists stand, and that they have just what the lists have.
use Rattle.std.specs.Prelude.{◌≡◌, ℕ, ◌<◌, ◌≤◌, ◌==◌, ◌⊎◌, ⊤, List, [], ◌∷◌, map, filter}
use Rattle.kap_base.specs.declared.items.Item.{Item}
use Rattle.node_core.specs.Meaning.{Input}

-- by stamp, and with one stamp by port
abbrev pub Precedes : Input → Input → Type 0
Precedes x y = (x.1.stamp.0 < y.1.stamp.0) ⊎ ((x.1.stamp.0 ≡ y.1.stamp.0) × (x.0 ≤ y.0))

-- it precedes each of these
abbrev pub PrecedesAll : Input → List Input → Type 0
PrecedesAll x [] = ⊤
PrecedesAll x (y ∷ ys) = Precedes x y × PrecedesAll x ys

-- each precedes all behind it
abbrev pub AreOrdered : List Input → Type 0
AreOrdered [] = ⊤
AreOrdered (x ∷ xs) = PrecedesAll x xs × AreOrdered xs

-- what came at a port, in order
abbrev pub from_port : ℕ → List Input → List Item
from_port port xs = map (λ x. x.1) (filter (λ x. x.0 == port) xs)
