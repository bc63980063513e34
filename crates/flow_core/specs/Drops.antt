-- How many inputs the nodes of lives dropped and counted.
use Rattle.std.specs.Prelude.{ℕ, List, map}
use Rattle.node_core.specs.declared.node.Node.{Ghosts}
use Rattle.flow_cells.specs.declared.parts.CellParts.{CellParts}
use Rattle.flow_core.specs.Nets.{NumberedLife}

module _ {N P S : Type 0} (g : Ghosts N P S) where
  -- each node of the cells of a life
  abbrev pub drops_of : List (CellParts N) → List ℕ
  drops_of cells = map (λ c. g.drops (g.state c.core.node)) cells

  -- each node of each life
  abbrev pub drops_in : List (NumberedLife N) → List (List ℕ)
  drops_in lives = map (λ l. drops_of l.life.cells) lives
