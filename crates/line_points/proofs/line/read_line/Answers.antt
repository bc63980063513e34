use Rattle.line_points.proofs.MeaningLaws.{answer_means}
use Rattle.line_points.proofs.line.read_line.Goals as goal

pub returns-clause-meaning : goal.returns-clause-meaning
returns-clause-meaning c = answer_means c.read.result c.args.db.now c.args.rp.now c.args.mode.now c.args.line.now c.read.ensures
