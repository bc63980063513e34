use Rattle.line_points.proofs.BlankLaws.{blank_is, is_blank_line}
use Rattle.line_points.proofs.law.blank_lines.Goals as goal

pub returns : goal.returns
returns c = λ db rp line mode. (blank_is db rp line mode, is_blank_line db rp line mode)
