use Rattle.std.proofs.Common.{subst}
use Rattle.flow_cells.specs.declared.parts.CellParts.{CellParts}
use Rattle.flow_cells.specs.Moved.{HasMoved}
use Rattle.flow_cells.proofs.MovedLaws.{put_moved}
use Rattle.flow_cells.specs.Moves.{PutsOne}
use Rattle.flow_cells.proofs.cell.Cell.put.Goals as goal

pub returns-clause-put : goal.returns-clause-put
returns-clause-put g c = λ yes. subst (λ (x : CellParts g.row.N.Denot). PutsOne c.args.out x c.put.new.cell) c.self.view_is (c.put.ensures.put yes)

pub returns-clause-moved : goal.returns-clause-moved
returns-clause-moved g c =
    let e = c.put.ensures in
    subst (λ (x : CellParts g.row.N.Denot). HasMoved x c.put.new.cell) c.self.view_is (put_moved c.put.result c.args.out c.self.inside.parts c.put.new.cell e.put e.none)
