use Rattle.std.proofs.Common.{◌++◌, ◌∙◌, ap}
use Rattle.flow_cells.proofs.SavedLaws.{saved_clean, saved_kept}
use Rattle.flow_cells.proofs.saving.put_saved.Goals as goal

pub returns-then-cell-clause-ok : goal.returns-then-cell-clause-ok
returns-then-cell-clause-ok g c = saved_clean g.N.Node c.args.cell.now c.args.to.now c.save.new.to c.requires.keeps c.if-cell.true c.in_ok-save.ensures.ok c.in_ok-save.ensures.fits

pub returns-clause-ok : goal.returns-clause-ok
returns-clause-ok g c = saved_kept g.N.Node c.args.cell.now c.args.to.now c.append.new.self c.requires.keeps c.requires.kept c.if-cell.false (c.in_ok-append.ensures.ok ∙ ap (λ l. c.args.to.now ++ l) c.as_slice.ensures)
