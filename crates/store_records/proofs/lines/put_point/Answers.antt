use Rattle.std.proofs.Common.{subst}
use Rattle.state_code.specs.Spelling.{FitsBytes}
use Rattle.kap_base.proofs.ResultLaws.{on_ok}
use Rattle.store_records.proofs.LineLaws.{line_fits}
use Rattle.store_records.proofs.lines.put_point.Goals as goal

pub returns-clause-fits : goal.returns-clause-fits
returns-clause-fits c =
    on_ok c.put_bytes.result
    (λ fits. line_fits c.args.db.now c.args.rp.now c.args.point.now c.requires c.in_ok-line.line c.in_ok-line.ensures.line c.in_ok-line.ensures.one_line (subst FitsBytes c.as_slice.ensures fits) c.in_ok-line.ensures.stored_again)
    c.put_bytes.ensures.fits
