-- Steps that are tried one after the other.
use Rattle.std.specs.Prelude.{ℕ, suc, List, [], ◌∷◌}
use Rattle.flow_cells.specs.declared.parts.CellParts.{CellParts}
use Rattle.flow_life.specs.declared.steps.Step.{Step}
use Rattle.flow_life.specs.Settling.{Grows}
use Rattle.flow_life.specs.Steps.{IsEnabled}
use Rattle.flow_life.specs.Trying.{SameEnabled}

module _ {A : Type 0} (Enabled : A → Step → Type 0) (Moves : Step → A → A → Type 0) (Stays : A → A → Type 0) where
  -- Steps are tried in their order, from what stands before the first one to what stands behind the last one, and so
  -- many are made: each one exactly where it is enabled at its turn. One that isn't made leaves what can be made.
  pub data PlaysBy : List Step → A → ℕ → A → Type 0 where
    played : {a : A} → PlaysBy [] a 0 a
    makes : {next : Step} {steps : List Step} {a b c : A} {made : ℕ} → Enabled a next → Moves next a b
        → PlaysBy steps b made c → PlaysBy (next ∷ steps) a (suc made) c
    skips : {next : Step} {steps : List Step} {a b c : A} {made : ℕ} → (Enabled a next → ⊥) → Stays a b
        → PlaysBy steps b made c → PlaysBy (next ∷ steps) a made c

module _ {N : Type 0} where
  -- the same for cells: each step that is made has one list grow by one message
  abbrev pub Plays : List Step → List (CellParts N) → ℕ → List (CellParts N) → Type 0
  Plays = PlaysBy IsEnabled Grows SameEnabled
