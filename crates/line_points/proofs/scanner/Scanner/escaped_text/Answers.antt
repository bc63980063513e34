use Rattle.line_points.proofs.Utf8Laws.{unescaped}
use Rattle.line_points.proofs.scanner.Scanner.escaped_text.Goals as goal

pub overflow_sub-line : goal.overflow_sub-line
overflow_sub-line c = (unescaped c.args.part c.as_bytes-line.result.now c.in_ok-bytes.bytes.items c.in_ok-bytes.rest.now c.as_bytes-line.ensures.utf8 c.in_ok-bytes.ensures).shorter

pub skip-requires : goal.skip-requires
skip-requires c = rw (← c.as_bytes-line.ensures.value) (unescaped c.args.part c.as_bytes-line.result.now c.in_ok-bytes.bytes.items c.in_ok-bytes.rest.now c.as_bytes-line.ensures.utf8 c.in_ok-bytes.ensures).boundary

pub from_utf8-requires : goal.from_utf8-requires
from_utf8-requires c = (unescaped c.args.part c.as_bytes-line.result.now c.in_ok-bytes.bytes.items c.in_ok-bytes.rest.now c.as_bytes-line.ensures.utf8 c.in_ok-bytes.ensures).valid

pub returns-clause-value : goal.returns-clause-value
returns-clause-value c =
    let u = unescaped c.args.part c.as_bytes-line.result.now c.in_ok-bytes.bytes.items c.in_ok-bytes.rest.now c.as_bytes-line.ensures.utf8 c.in_ok-bytes.ensures in
    rw (c.from_utf8.ensures, c.skip.ensures, ← c.as_bytes-line.ensures.value, u.rest_is) c.in_ok-bytes.ensures
