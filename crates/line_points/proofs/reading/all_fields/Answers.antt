use Rattle.std.proofs.Common.{sym}
use Rattle.std.proofs.lemmas.Result.{err_from_is_err_and}
use Rattle.line_points.proofs.LineLaws.{fields-next, fields-end, fields-fail}
use Rattle.line_points.proofs.reading.all_fields.Goals as goal

pub returns-in_err-field : goal.returns-in_err-field
returns-in_err-field c =
    let p = err_from_is_err_and c.from_residual.result c.from_residual.ensures.1 in
    rw (p.1, p.2) (λ ne. fields-fail c.fields.fields c.fields.scanner.rest.now _ _ c.fields.invariant (c.in_err-field.ensures.value ne))

pub returns-then-not-take : goal.returns-then-not-take
returns-then-not-take c =
    rw (c.in_ok-push.ensures.ok, c.if-not-take.ensures.rest) (fields-end c.fields.fields c.fields.scanner.rest.now _ c.in_ok-field.field c.field.new.scanner.rest.now c.fields.invariant c.in_ok-field.ensures.value (sym c.if-not-take.ensures.found))

pub fields-preserved : goal.fields-preserved
fields-preserved c =
    rw (c.in_ok-push.ensures.ok, c.if-not-take.ensures.rest) (fields-next c.fields.fields c.fields.scanner.rest.now _ c.in_ok-field.field c.field.new.scanner.rest.now c.fields.invariant c.in_ok-field.ensures.value c.in_ok-field.ensures.shorter (sym c.if-not-take.ensures.found))
