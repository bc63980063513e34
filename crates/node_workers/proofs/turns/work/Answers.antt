use Rattle.node_workers.proofs.WorkerLaws.{stood_more, stood_none}
use Rattle.node_workers.proofs.turns.work.Goals as goal

pub turning-init : goal.turning-init
turning-init g c = stood_none c.args.cells.now

pub returns-in_default : goal.returns-in_default
returns-in_default g c = stood_more c.args.cells.now c.turning.cells c.turn.new.cells c.turning.invariant c.turn.ensures

pub returns-then-ends : goal.returns-then-ends
returns-then-ends g c = stood_more c.args.cells.now c.turning.cells c.turn.new.cells c.turning.invariant c.turn.ensures

pub turning-preserved : goal.turning-preserved
turning-preserved g c = stood_more c.args.cells.now c.turning.cells c.turn.new.cells c.turning.invariant c.turn.ensures
