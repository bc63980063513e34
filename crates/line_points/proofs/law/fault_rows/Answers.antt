use Rattle.line_points.proofs.RowLaws.{line_row, row_line}
use Rattle.line_points.proofs.law.fault_rows.Goals as goal

pub returns : goal.returns
returns c = λ db rp line mode f. (line_row db rp mode line f, row_line db rp mode line f)
