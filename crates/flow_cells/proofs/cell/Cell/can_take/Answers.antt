use Rattle.std.proofs.Common.{subst}
use Rattle.flow_cells.specs.declared.parts.CellParts.{CellParts}
use Rattle.flow_cells.specs.Looks.{CanTake}
use Rattle.flow_cells.proofs.cell.Cell.can_take.Goals as goal

pub returns-clause-yes : goal.returns-clause-yes
returns-clause-yes g c = λ yes. subst (λ (x : CellParts g.row.N.Denot). CanTake c.args.input x) c.self.view_is (c.can_take.ensures.yes yes)
