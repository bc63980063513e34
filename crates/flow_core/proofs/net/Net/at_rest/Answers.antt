use Rattle.std.proofs.Common.{ap, subst, ◌∙◌}
use Rattle.std.specs.List.{AllByRecursion as Each}
use Rattle.flow_core.proofs.LivesLaws.{moved_twice}
use Rattle.flow_core.specs.Nets.{HaveMovedTwice, IsLifeIn, IsResting}
use Rattle.flow_core.proofs.NetLaws.{streams_rest}
use Rattle.flow_core.proofs.net.Net.at_rest.Goals as goal

pub returns-clause-twice_in_all : goal.returns-clause-twice_in_all
returns-clause-twice_in_all g c = λ rest.
    subst (HaveMovedTwice g.N.Node) (c.deref.ensures.value ∙ ap (λ v. v.lives) c.self.view_is) (moved_twice g.N.Node _ (c.at_rest.ensures.twice rest))

pub returns-clause-whole : goal.returns-clause-whole
returns-clause-whole g c = λ rests.
    let node = g.N.Node in
    let kept = subst (Each (IsLifeIn node)) (c.deref.ensures.value ∙ ap (λ v. v.lives) c.self.view_is) (c.at_rest.ensures.lives rests) in
    let rest = subst (Each IsResting) (c.deref.ensures.value ∙ ap (λ v. v.lives) c.self.view_is) (c.at_rest.ensures.rest rests) in
    record { kept = kept; streams = streams_rest node _ kept rest }
