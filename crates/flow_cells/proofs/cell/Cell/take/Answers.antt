use Rattle.std.proofs.Common.{subst}
use Rattle.flow_cells.specs.declared.parts.CellParts.{CellParts}
use Rattle.flow_cells.specs.Moved.{HasMoved}
use Rattle.flow_cells.proofs.MovedLaws.{take_moved}
use Rattle.flow_cells.proofs.cell.Cell.take.Goals as goal

pub returns-in-Ok-clause-moved : goal.returns-in-Ok-clause-moved
returns-in-Ok-clause-moved g c =
    let e = c.in-Ok.ensures in
    subst (λ (x : CellParts g.row.N.Denot). HasMoved x c.take.new.cell) c.self.view_is (take_moved c.in-Ok.took c.args.input c.self.inside.parts c.take.new.cell e.took e.none)
