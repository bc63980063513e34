use Rattle.line_points.specs.declared.mode.Mode.TheVariants.{Recording}
use Rattle.line_points.proofs.MeaningLaws.{stored_answer_means, never_long}
use Rattle.line_points.proofs.line.read_stored.Goals as goal

pub returns-clause-no_limit : goal.returns-clause-no_limit
returns-clause-no_limit c = never_long c.stored_point.result c.args.db.now c.args.rp.now Recording c.args.line.now c.stored_point.ensures

pub returns-clause-meaning : goal.returns-clause-meaning
returns-clause-meaning c = stored_answer_means c.stored_point.result c.args.db.now c.args.rp.now c.args.line.now c.stored_point.ensures
