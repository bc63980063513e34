-- Which cell a step moves, and what a step leaves of what can be made and gathered.
use Rattle.std.specs.Prelude.{◌≡◌, ℕ, List, Some, slice_get}
use Rattle.flow_cells.specs.declared.parts.CellParts.{CellParts}
use Rattle.flow_life.specs.declared.steps.Step.{Step}
use Rattle.flow_life.specs.declared.steps.Step.TheVariants as steps
use Rattle.flow_life.specs.Loads.{IsGathered}
use Rattle.flow_life.specs.Steps.{IsEnabled}

-- the cell that a step moves
abbrev pub mover : Step → ℕ
mover (steps.Take cell input) = cell
mover (steps.Put cell out) = cell

module _ {N : Type 0} where
  -- the same steps can be made
  pub record SameEnabled (cells cells' : List (CellParts N)) : Type 0 where
    pub forth : (next : Step) → IsEnabled cells next → IsEnabled cells' next
    pub back : (next : Step) → IsEnabled cells' next → IsEnabled cells next

  -- nothing is left to gather, but from this cell
  pub record IsGatheredBut (k : ℕ) (cells : List (CellParts N)) : Type 0 where
    pub others : (j : ℕ) (c : CellParts N) → (j ≡ k → ⊥) → slice_get cells j ≡ Some c → IsGathered c
