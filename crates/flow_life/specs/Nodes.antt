-- What the nodes of cells are, and which effects were gathered from each.
use Rattle.std.specs.Prelude.{List, map}
use Rattle.kap_base.specs.declared.items.Effect.{Effect}
use Rattle.node_core.specs.declared.node.Node.{Ghosts}
use Rattle.flow_cells.specs.declared.parts.CellParts.{CellParts}
use Rattle.flow_cells.specs.Kept.{gathered}

-- of each cell the effects that were gathered since the load
abbrev pub gathered_of : {N : Type 0} → List (CellParts N) → List (List Effect)
gathered_of cells = map (λ c. gathered c.core.gathered) cells

module _ {N P S : Type 0} (g : Ghosts N P S) where
  -- what the node of each cell is
  abbrev pub specs_of : List (CellParts N) → List P
  specs_of cells = map (λ c. g.spec c.core.node) cells
