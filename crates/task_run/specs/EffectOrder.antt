-- In which order the effects of lives stand, and that they have just what the nodes give.
use Rattle.std.specs.Prelude.{◌≡◌, ℕ, ◌+◌, ◌<◌, ◌≤◌, ◌⊎◌, ⊤, List, [], ◌∷◌}
use Rattle.kap_base.specs.declared.items.Effect.{Effect}
use Rattle.task_run.specs.Graphs.{Placed}

-- by stamp, with one stamp by life, and in one life by node
abbrev pub Comes : Effect → Effect → Type 0
Comes a b = (a.stamp.0 < b.stamp.0)
    ⊎ ((a.stamp.0 ≡ b.stamp.0) × ((a.life < b.life) ⊎ ((a.life ≡ b.life) × (a.node ≤ b.node))))

-- it comes before each of these effects
abbrev pub ComesBefore : Effect → List Effect → Type 0
ComesBefore a [] = ⊤
ComesBefore a (b ∷ effects) = Comes a b × ComesBefore a effects

-- each comes before all behind it
abbrev pub AreInOrder : List Effect → Type 0
AreInOrder [] = ⊤
AreInOrder (a ∷ effects) = ComesBefore a effects × AreInOrder effects

module _ {P : Type 0} (life number : P → ℕ) where
  -- nodes of this life, numbered from here on
  abbrev pub NodesNumbered : ℕ → ℕ → List (Placed P) → Type 0
  NodesNumbered which at [] = ⊤
  NodesNumbered which at (node ∷ nodes) =
      ((life node.spec ≡ which) × (number node.spec ≡ at)) × NodesNumbered which (at + 1) nodes

  -- lives numbered from here on
  abbrev pub LivesNumbered : ℕ → List (List (Placed P)) → Type 0
  LivesNumbered which [] = ⊤
  LivesNumbered which (nodes ∷ lives) = NodesNumbered which 0 nodes × LivesNumbered (which + 1) lives
