use Rattle.line_points.proofs.MeaningLaws.{line_means_point, point_means_line}
use Rattle.line_points.proofs.law.each_spelling.Goals as goal

pub returns : goal.returns
returns c = λ db rp line mode p. (line_means_point db rp mode line p, point_means_line db rp mode line p)
