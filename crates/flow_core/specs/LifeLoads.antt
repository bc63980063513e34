-- The nodes of the cells of a life, as whole lists see them.
use Rattle.std.specs.Prelude.{List, ◌++◌, map}
use Rattle.kap_base.specs.declared.items.Effect.{Effect}
use Rattle.node_core.specs.declared.node.Node.{Ghosts}
use Rattle.flow_cells.specs.declared.parts.InEdge.{InEdge}
use Rattle.flow_cells.specs.declared.parts.CellParts.{CellParts}
use Rattle.flow_cells.specs.Kept.{gathered}
use Rattle.task_run.specs.Active.{Active}

module _ {N P S : Type 0} (g : Ghosts N P S) where
  -- the nodes of cells in their states, each with its parents
  abbrev pub acts_of : List (CellParts N) → List (Active P S)
  acts_of cells =
      map (λ c. record {
        spec = g.spec c.core.node;
        state = g.state c.core.node;
        parents = map (λ (e : InEdge). e.from) c.ins.items;
      }) cells

-- the effects of each cell since the load
abbrev pub effects_since : {N : Type 0} → List (CellParts N) → List (List Effect)
effects_since cells = map (λ c. gathered c.core.gathered ++ c.core.effects) cells
