use Rattle.std.proofs.Common.{ap, rules, ◌∙◌}
use Rattle.std.proofs.lemmas.List.{places, with_items_is}
use Rattle.flow_core.proofs.NetLaws.{net_goes}
use Rattle.flow_core.proofs.net.Net.play.Goals as goal

pub returns-clause-goes : goal.returns-clause-goes
returns-clause-goes g c =
    let made = c.in_ok-made.ensures in
    net_goes g.N.Node _ _ _ c.play.new.lives _ (c.deref_mut.ensures.value ∙ ap (λ v. v.lives) c.self.view_is) (ap (λ v. v.gathered) c.self.view_is)
    (with_items_is c.self.inside.lives c.play.new.lives (search (rules, places))) (ap (λ v. v.last) c.self.view_is) made.numbers made.plans made.specs made.rooms made.ends made.gathers
