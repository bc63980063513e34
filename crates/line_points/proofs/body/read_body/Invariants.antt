use Rattle.std.proofs.Common.{length}
use Rattle.line_points.proofs.BodyLaws.{LinesLeft}
use Rattle.line_points.proofs.body.read_body.Given as goal

abbrev pub invariant-lines : goal.invariant-lines
invariant-lines l = LinesLeft l.db l.rp l.mode l.before l.points l.rest l.body

abbrev pub decreases-lines : goal.decreases-lines
decreases-lines l = length l.rest
