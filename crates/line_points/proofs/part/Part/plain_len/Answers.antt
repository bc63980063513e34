use Rattle.std.proofs.Common.{sym}
use Rattle.line_points.specs.Parts.{marks}
use Rattle.kap_base.proofs.PositionLaws.{none_place}
use Rattle.line_points.proofs.part.Part.plain_len.Goals as goal

pub returns-in-None : goal.returns-in-None
returns-in-None c = sym (none_place (marks c.args.self) c.args.bytes.now c.in-None.ensures)
