-- Steps that are tried one after the other in a net.
use Rattle.std.specs.Prelude.{ℕ, List}
use Rattle.flow_life.specs.declared.steps.Step.{Step}
use Rattle.flow_life.specs.Playing.{PlaysBy}
use Rattle.flow_core.specs.Nets.{EnabledIn, GrowsIn, NumberedLife}
use Rattle.flow_core.specs.Running.{SameEnabledIn}

module _ {N : Type 0} where
  -- steps, each tried at its turn: where the life that has the cell can make it, one list of this life grows by one
  -- message, and where it can't, what can be made stays; so many were made
  abbrev pub PlaysIn : List Step → List (NumberedLife N) → ℕ → List (NumberedLife N) → Type 0
  PlaysIn = PlaysBy EnabledIn GrowsIn SameEnabledIn
