use Rattle.flow_core.proofs.PlanLaws.{lives_rest, lives_sound}
use Rattle.flow_core.proofs.net.Net.make_behind.Goals as goal

pub invariant_of-result : goal.invariant_of-result
invariant_of-result g c = λ _. lives_sound g.N.Node c.args.last.0 _ _ c.in_ok-lives_of.ensures.lives

pub returns-clause-rest : goal.returns-clause-rest
returns-clause-rest g c = lives_rest g.N.Node c.args.last.0 _ _ c.in_ok-lives_of.ensures.lives
