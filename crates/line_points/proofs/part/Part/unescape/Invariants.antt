use Rattle.std.proofs.Common.{◌≡◌, length, false}
use Rattle.line_points.specs.Parts.{text_from}
use Rattle.line_points.proofs.PartLaws.{joined}
use Rattle.line_points.proofs.part.Part.unescape.Given as goal

abbrev pub invariant-bytes : goal.invariant-bytes
invariant-bytes l = joined l.text.items (text_from l.self l.escaped l.rest) ≡ text_from l.self false l.bytes

abbrev pub decreases-bytes : goal.decreases-bytes
decreases-bytes l = length l.rest
