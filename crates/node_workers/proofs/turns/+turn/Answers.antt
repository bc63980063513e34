use Rattle.node_workers.proofs.WorkerLaws.{stood_first}
use Rattle.node_workers.proofs.turns.+turn.Goals as goal

pub returns-in_err-had : goal.returns-in_err-had
returns-in_err-had g t c = stood_first c.args.cells.now c.in-Some.first.now c.move_cell.new.cell c.in-Some.others.now c.in-Some.ensures.cases.0 c.move_cell.ensures
