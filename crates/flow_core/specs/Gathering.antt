-- Effects that the nodes of lives gave, before they are sorted.
use Rattle.std.specs.Prelude.{◌≡◌, ℕ, ◌+◌, ◌<◌, ◌≤◌, ⊤, List, [], ◌∷◌}
use Rattle.kap_base.specs.declared.items.Effect.{Effect}
use Rattle.node_core.specs.Meaning.{Answer, Input, given}
use Rattle.task_run.specs.EffectOrder.{NodesNumbered}
use Rattle.task_run.specs.Graphs.{Placed}
use Rattle.task_run.specs.Stamps.{StampsRise, of_input}

-- those of these effects that have its stamp have a higher number
abbrev pub IsNumberedBelow : Effect → List Effect → Type 0
IsNumberedBelow a [] = ⊤
IsNumberedBelow a (b ∷ effects) = (a.stamp.0 ≡ b.stamp.0 → a.seq < b.seq) × IsNumberedBelow a effects

-- the numbers of effects with one stamp rise
abbrev pub AreNumbered : List Effect → Type 0
AreNumbered [] = ⊤
AreNumbered (a ∷ effects) = IsNumberedBelow a effects × AreNumbered effects

-- a node numbers its effects: where stamps don't fall, the numbers of those with one stamp rise
abbrev pub NumbersEffects : Answer → Type 0
NumbersEffects answer = (xs : List Input) → StampsRise of_input xs → AreNumbered (given answer xs).effects

module _ {P : Type 0} (life number : P → ℕ) where
  -- the numbers of lives rise from here on, and each has its nodes numbered by their places
  abbrev pub LivesRise : ℕ → List (List (Placed P)) → Type 0
  LivesRise low [] = ⊤
  LivesRise low (nodes ∷ lives) =
      (which : ℕ) × (low ≤ which) × NodesNumbered life number which 0 nodes × LivesRise (which + 1) lives
