use Rattle.std.proofs.Common.{◌++◌, ap, subst, sym, ◌∙◌}
use Rattle.flow_cells.specs.Kept.{SpellsSaved}
use Rattle.barrier_snapshot.specs.Capturing.{PutsCells}
use Rattle.barrier_snapshot.proofs.PutLaws.{puts_first, puts_none}
use Rattle.barrier_snapshot.proofs.capturing.+put_cells.Goals as goal

pub returns-in_ok-put_cells : goal.returns-in_ok-put_cells
returns-in_ok-put_cells g t c =
    let node = g.N.Node in
    let first = c.in-Some.first.now in
    let others = c.in-Some.others.now in
    let put = c.in_ok-put_saved.ensures.ok in
    let one = c.as_slice.result.now in
    let same = c.as_slice.ensures ∙ put.is ∙ ap (λ l. l ++ put.bytes) c.clear.ensures in
    let spells = subst (SpellsSaved node first) (sym same) put.saved in
    subst (λ cells. PutsCells node cells c.args.to.now c.put_cells.new.to) (sym c.in-Some.ensures.cases.0)
    (puts_first node first others one c.args.to.now c.put_bytes.new.to c.put_cells.new.to spells c.in_ok-put_bytes.ensures.fits c.in_ok-put_bytes.ensures.ok c.in_ok-put_cells.ensures)

pub returns-in_default : goal.returns-in_default
returns-in_default g t c = puts_none g.N.Node c.args.cells.now c.args.to.now c.in_default.ensures.cases
