use Rattle.std.proofs.Common.{subst}
use Rattle.barrier_snapshot.specs.Barriers.{cells_in}
use Rattle.barrier_snapshot.specs.Passing.{AreBehind}
use Rattle.barrier_snapshot.proofs.SteadyLaws.{steady_passed}
use Rattle.barrier_snapshot.proofs.passing.has_passed_inside.Goals as goal

pub returns-clause-passed : goal.returns-clause-passed
returns-clause-passed g c = λ yes steady. steady_passed g.N.Node c.args.upto c.args.net.now.lives (subst (λ l. AreBehind c.args.upto (cells_in l)) c.lives.ensures.lives (c.all_behind.ensures.yes yes)) steady
