-- In which order effects are gathered.
use Rattle.std.specs.Prelude.{◌≡◌, ℕ, ◌<◌, ◌⊎◌, ⊤, List, [], ◌∷◌}
use Rattle.kap_base.specs.declared.items.Effect.{Effect}

-- the lower of two numbers goes first, and where they are the same this says what does
abbrev pub By : ℕ → ℕ → Type 0 → Type 0
By a b then = (a < b) ⊎ ((a ≡ b) × then)

-- an effect goes before another: by its stamp, then by its life, then by its node, then by its number
abbrev pub GoesFirst : Effect → Effect → Type 0
GoesFirst a b = By a.stamp.0 b.stamp.0 (By a.life b.life (By a.node b.node (a.seq < b.seq)))

-- none of these goes before it
abbrev pub NoneFirst : Effect → List Effect → Type 0
NoneFirst a [] = ⊤
NoneFirst a (b ∷ effects) = (GoesFirst b a → ⊥) × NoneFirst a effects

-- none goes before one that stands before it
abbrev pub AreSorted : List Effect → Type 0
AreSorted [] = ⊤
AreSorted (a ∷ effects) = NoneFirst a effects × AreSorted effects

-- it goes before each of these
abbrev pub GoesBefore : Effect → List Effect → Type 0
GoesBefore a [] = ⊤
GoesBefore a (b ∷ effects) = GoesFirst a b × GoesBefore a effects

-- each goes before all behind it
abbrev pub AreRising : List Effect → Type 0
AreRising [] = ⊤
AreRising (a ∷ effects) = GoesBefore a effects × AreRising effects

-- where it stands: its stamp, its life, its node and its number
abbrev pub place_of : Effect → ℕ × ℕ × ℕ × ℕ
place_of e = (e.stamp.0, e.life, e.node, e.seq)
