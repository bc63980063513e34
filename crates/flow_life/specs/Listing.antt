-- All steps of cells, in order.
use Rattle.std.specs.Prelude.{ℕ, zero, suc, List, [], ◌∷◌, ◌++◌, length, map}
use Rattle.flow_cells.specs.declared.parts.CellParts.{CellParts}
use Rattle.flow_life.specs.declared.steps.Step.{Step}
use Rattle.flow_life.specs.declared.steps.Step.TheVariants as steps

-- of each cell how many inputs and how many outs it has
abbrev pub ends_of : {N : Type 0} → List (CellParts N) → List (ℕ × ℕ)
ends_of cells = map (λ c. (length c.ins.items, length c.core.outs.items)) cells

-- the takes of a cell from so many inputs, in their order
abbrev pub takes_to : ℕ → ℕ → List Step
takes_to cell zero = []
takes_to cell (suc input) = takes_to cell input ++ steps.Take cell input ∷ []

-- the puts of a cell at so many outs, in their order
abbrev pub puts_to : ℕ → ℕ → List Step
puts_to cell zero = []
puts_to cell (suc out) = puts_to cell out ++ steps.Put cell out ∷ []

-- of cells that are numbered from here on, cell by cell, the takes by input and then the puts by out
abbrev pub steps_from : ℕ → List (ℕ × ℕ) → List Step
steps_from cell [] = []
steps_from cell (e ∷ ends) = (takes_to cell e.0 ++ puts_to cell e.1) ++ steps_from (suc cell) ends
