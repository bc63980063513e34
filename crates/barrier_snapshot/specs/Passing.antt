-- Which barriers cells have passed.
use Rattle.std.specs.Prelude.{◌≡◌, ⊤, List, [], ◌∷◌}
use Rattle.kap_base.specs.declared.items.Stamp.{Stamp}
use Rattle.flow_cells.specs.declared.parts.CellParts.{CellParts}
use Rattle.flow_cells.specs.declared.parts.InEdge.{InEdge}
use Rattle.flow_cells.specs.Kept.{HasKept}

-- the state of a cell at the last barrier that it passed can be had, and this is the barrier, where it has inputs
abbrev pub IsBehind : {N : Type 0} → Stamp → CellParts N → List InEdge → Type 0
IsBehind upto c [] = HasKept c
IsBehind upto c (e ∷ ins) = HasKept c × (c.core.passed ≡ upto)

-- and so of each cell
abbrev pub AreBehind : {N : Type 0} → Stamp → List (CellParts N) → Type 0
AreBehind upto [] = ⊤
AreBehind upto (c ∷ cells) = IsBehind upto c c.ins.items × AreBehind upto cells

-- the state of each cell at the last barrier that it passed can be had, and this is the barrier, also of streams
abbrev pub StandAt : {N : Type 0} → Stamp → List (CellParts N) → Type 0
StandAt upto [] = ⊤
StandAt upto (c ∷ cells) = (HasKept c × (c.core.passed ≡ upto)) × StandAt upto cells
