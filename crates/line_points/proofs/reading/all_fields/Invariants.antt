use Rattle.std.proofs.Common.{length}
use Rattle.line_points.specs.Line.{fields_from}
use Rattle.line_points.proofs.LineLaws.{FieldsLeft}
use Rattle.line_points.proofs.reading.all_fields.Given as goal

abbrev pub invariant-fields : goal.invariant-fields
invariant-fields l = FieldsLeft l.fields l.scanner.rest.now (fields_from (length l.fn.scanner.rest.now) l.fn.scanner.rest.now)

abbrev pub decreases-fields : goal.decreases-fields
decreases-fields l = length l.scanner.rest.now
