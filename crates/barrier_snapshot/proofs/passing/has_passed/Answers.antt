use Rattle.std.proofs.Common.{subst}
use Rattle.barrier_snapshot.specs.Barriers.{cells_in}
use Rattle.barrier_snapshot.specs.Passing.{StandAt}
use Rattle.barrier_snapshot.proofs.SavedLaws.{all_passed}
use Rattle.barrier_snapshot.proofs.passing.has_passed.Goals as goal

pub returns-clause-passed : goal.returns-clause-passed
returns-clause-passed g c = λ yes. all_passed g.N.Node c.args.upto (cells_in c.args.net.now.lives) (subst (λ l. StandAt c.args.upto (cells_in l)) c.lives.ensures.lives (c.all_stand_at.ensures.yes yes))
