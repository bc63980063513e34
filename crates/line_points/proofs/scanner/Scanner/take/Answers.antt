use Rattle.std.proofs.Common.{sym}
use Rattle.line_points.proofs.PlaceLaws.{first_boundary}
use Rattle.line_points.proofs.scanner.Scanner.take.Goals as goal

pub skip-requires : goal.skip-requires
skip-requires c = rw (← c.as_bytes.ensures.value) (first_boundary c.args.byte c.as_bytes.result.now c.as_bytes.ensures.utf8 c.requires (sym c.if-not-begins_with.ensures))
