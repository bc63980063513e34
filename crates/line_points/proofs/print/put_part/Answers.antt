use Rattle.std.proofs.Common.{sym}
use Rattle.line_points.proofs.PrintLaws.{escaped-none}
use Rattle.line_points.proofs.print.put_part.Goals as goal

pub returns-clause-ok : goal.returns-clause-ok
returns-clause-ok c =
    let none = sym (rw c.bytes-bytes.ensures.bytes at c.if-needs_escapes.ensures) in
    rw (escaped-none c.args.part c.args.text.now none, ← c.bytes-bytes.ensures.bytes) c.append.ensures.ok
