use Rattle.std.proofs.Common.{refl}
use Rattle.flow_core.proofs.CarriedLaws.{new_carried}
use Rattle.flow_core.proofs.PlanLaws.{lives_rest, lives_sound}
use Rattle.flow_core.proofs.net.Net.make.Goals as goal

pub invariant_of-result : goal.invariant_of-result
invariant_of-result g c = λ _. lives_sound g.N.Node 0 _ _ c.in_ok-lives_of.ensures.lives

pub returns-clause-rest : goal.returns-clause-rest
returns-clause-rest g c = lives_rest g.N.Node 0 _ _ c.in_ok-lives_of.ensures.lives

pub returns-clause-carried : goal.returns-clause-carried
returns-clause-carried g c = new_carried g.N.Node c.args.plans.items _ c.in_ok-lives_of.ensures.lives refl (lives_rest g.N.Node 0 _ _ c.in_ok-lives_of.ensures.lives)
