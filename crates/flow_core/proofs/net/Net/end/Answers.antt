use Rattle.std.proofs.Common.{ap, subst, sym}
use Rattle.std.specs.List.{AllByRecursion as Each}
use Rattle.flow_core.proofs.EndLaws.{each_remove}
use Rattle.flow_core.specs.Nets.{IsResting, IsSound}
use Rattle.flow_core.proofs.net.Net.end.Goals as goal

pub invariant_of-self : goal.invariant_of-self
invariant_of-self g c = λ unspent. subst (Each IsSound) (sym c.remove-ended.ensures.items) (each_remove IsSound c.self.inside.lives.items _ (c.self.invariant unspent))

pub returns-clause-rest : goal.returns-clause-rest
returns-clause-rest g c =
    let before = subst (Each IsResting) (sym (ap (λ v. v.lives) c.self.view_is)) c.requires.rest in
    subst (Each IsResting) (sym c.remove-ended.ensures.items) (each_remove IsResting c.self.inside.lives.items _ before)
