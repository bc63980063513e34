use Rattle.std.proofs.Common.{arith}
use Rattle.line_points.proofs.PartLaws.{joined-keeps, joined-skips, joined-ends, joined-done}
use Rattle.line_points.proofs.part.Part.unescape.Goals as goal
use Rattle.line_points.proofs.part.Part.unescape.Goals.{in-Some+then-ends, in_default}

pub bytes-preserved-in_ok-push : goal.bytes-preserved-in_ok-push
bytes-preserved-in_ok-push c = grind (arith, joined-keeps)

pub bytes-preserved : goal.bytes-preserved
bytes-preserved c = grind (arith, joined-skips)

pub returns : goal.returns
returns c = elim c.match-split_first.branch [ in-Some+then-ends w ↦ grind (arith, joined-ends) | in_default w ↦ grind (arith, joined-done) ]
