-- The effects of the cells of a life are gathered.
use Rattle.std.specs.Prelude.{List, [], ◌∷◌, ◌++◌}
use Rattle.kap_base.specs.declared.items.Effect.{Effect}
use Rattle.flow_cells.specs.declared.parts.CellParts.{CellParts}

-- the effects that weren't gathered yet, cell by cell
abbrev pub effects_of : {N : Type 0} → List (CellParts N) → List Effect
effects_of [] = []
effects_of (c ∷ cells) = c.core.effects ++ effects_of cells
