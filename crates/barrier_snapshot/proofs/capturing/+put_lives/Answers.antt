use Rattle.std.proofs.Common.{subst, sym}
use Rattle.barrier_snapshot.specs.Barriers.{cells_in}
use Rattle.barrier_snapshot.specs.Capturing.{PutsCells}
use Rattle.barrier_snapshot.proofs.PutLaws.{puts_both, puts_no_lives}
use Rattle.barrier_snapshot.proofs.capturing.+put_lives.Goals as goal

pub returns-in_ok-put_lives : goal.returns-in_ok-put_lives
returns-in_ok-put_lives g t c =
    let node = g.N.Node in
    let first = c.in-Some.first.now in
    let others = c.in-Some.others.now in
    let own = subst (λ cells. PutsCells node cells c.args.to.now c.put_cells.new.to) c.all_cells.ensures c.in_ok-put_cells.ensures in
    subst (λ ls. PutsCells node (cells_in ls) c.args.to.now c.put_lives.new.to) (sym c.in-Some.ensures.cases.0)
    (puts_both node first.life.cells (cells_in others) c.args.to.now c.put_cells.new.to c.put_lives.new.to own c.in_ok-put_lives.ensures)

pub returns-in_default : goal.returns-in_default
returns-in_default g t c = puts_no_lives g.N.Node c.args.lives.now c.args.to.now c.in_default.ensures.cases
