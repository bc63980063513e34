-- What workers leave of cells.
use Rattle.std.specs.Prelude.{◌≡◌, false}
use Rattle.std.specs.List.{AllZip}
use Rattle.node_core.specs.declared.node.Node.{Ghosts}
use Rattle.flow_cells.specs.declared.parts.CellParts.{CellParts}
use Rattle.flow_cells.specs.Moved.{HasMoved}
use Rattle.flow_core.specs.Nets.{IsLifeIn, NumberedLife}

-- the same cell after moves of its own, unless a call on it failed
abbrev pub HasStood : {N : Type 0} → CellParts N → CellParts N → Type 0
HasStood c d = d.spent ≡ false → HasMoved c d

module _ {N P S : Type 0} (g : Ghosts N P S) where
  -- the same life with such cells; before, they kept what those of a life keep, unless a call on it had failed
  pub record HasStoodLife (l l' : NumberedLife N) : Type 0 where
    pub number : l'.number ≡ l.number
    pub cells : AllZip HasStood l.life.cells l'.life.cells
    pub was : l.life.spent ≡ false → IsLifeIn g l
