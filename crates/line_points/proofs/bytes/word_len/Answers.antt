use Rattle.line_points.specs.Parts.{is_separator}
use Rattle.std.proofs.Common.{sym}
use Rattle.kap_base.proofs.PositionLaws.{none_place}
use Rattle.line_points.proofs.bytes.word_len.Goals as goal

pub returns-in-None : goal.returns-in-None
returns-in-None c = sym (none_place is_separator c.args.bytes.now c.in-None.ensures)
