-- What a life is, and what it keeps.
use Rattle.std.specs.Prelude.{Bool, List}
use Rattle.node_core.specs.declared.node.Node.{Ghosts}
use Rattle.flow_cells.specs.declared.parts.CellParts.{CellParts}
use Rattle.flow_life.specs.Graphs.{IsLoaded}
use Rattle.flow_life.specs.Streams.{plans_of}
use Rattle.flow_life.specs.Wired.{IsReady}

-- its cells, and whether a call on it failed in the middle
pub record LifeValue (N : Type 0) : Type 0 where
  pub cells : List (CellParts N)
  pub spent : Bool

module _ {N P S : Type 0} (g : Ghosts N P S) where
  -- cells that are ready, whose last load ended with a barrier
  pub record IsLife (cells : List (CellParts N)) : Type 0 where
    pub ready : IsReady g cells
    pub loaded : IsLoaded (plans_of g cells)
