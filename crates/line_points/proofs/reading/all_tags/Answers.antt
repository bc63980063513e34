use Rattle.std.proofs.Common.{sym, arith}
use Rattle.std.proofs.lemmas.Result.{err_from_is_err_and}
use Rattle.line_points.proofs.LineLaws.{tags-next, tags-fail, tags-end}
use Rattle.line_points.proofs.reading.all_tags.Goals as goal

pub tags-preserved : goal.tags-preserved
tags-preserved c =
    rw c.in_ok-push.ensures.ok (tags-next c.tags.tags c.tags.scanner.rest.now _ c.in_ok-tag.tag c.tag.new.scanner.rest.now c.tags.invariant (sym c.tags-test.ensures.found) (rw c.tags-test.ensures.rest at c.in_ok-tag.ensures.value) (omega (arith, c.in_ok-tag.ensures.shorter, c.tags-test.ensures.shorter)))

pub returns-in_err-tag : goal.returns-in_err-tag
returns-in_err-tag c =
    let p = err_from_is_err_and c.from_residual.result c.from_residual.ensures.1 in
    rw (p.1, p.2) (λ ne. tags-fail c.tags.tags c.tags.scanner.rest.now _ _ c.tags.invariant (sym c.tags-test.ensures.found) (rw c.tags-test.ensures.rest at (c.in_err-tag.ensures.value ne)))

pub returns : goal.returns
returns c = rw c.tags-test.ensures.rest (tags-end c.tags.tags c.tags.scanner.rest.now _ c.tags.invariant (sym c.tags-test.ensures.found))
