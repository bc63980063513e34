use Rattle.std.proofs.Common.{◌≡◌, ap, rules, subst, sym, ◌∙◌}
use Rattle.std.specs.List.{AllByRecursion as Each}
use Rattle.std.specs.Vec.{with_items}
use Rattle.std.proofs.lemmas.List.{places, with_items_is}
use Rattle.flow_core.specs.Nets.{IsLifeIn, IsResting}
use Rattle.flow_core.proofs.NetLaws.{net_goes, streams_rest}
use Rattle.flow_core.proofs.net.Net.play_by.Goals as goal

pub returns-clause-goes : goal.returns-clause-goes
returns-clause-goes g c =
    let made = c.in_ok-play_by.ensures.goes in
    net_goes g.N.Node _ _ _ c.play_by.new.lives _ (c.deref_mut.ensures.value ∙ ap (λ v. v.lives) c.self.view_is) (ap (λ v. v.gathered) c.self.view_is)
    (with_items_is c.self.inside.lives c.play_by.new.lives (search (rules, places))) (ap (λ v. v.last) c.self.view_is) made.numbers made.plans made.specs made.rooms made.ends made.gathers

pub returns-clause-whole : goal.returns-clause-whole
returns-clause-whole g c =
    let node = g.N.Node in
    let made = c.in_ok-play_by.ensures in
    let here : (with_items c.self.inside.lives c.play_by.new.lives).items ≡ c.play_by.new.lives = with_items_is c.self.inside.lives c.play_by.new.lives (search (rules, places)) in
    let kept = subst (Each (IsLifeIn node)) (sym here) made.lives in
    let rest = subst (Each IsResting) (sym here) made.rest in
    record { kept = kept; streams = streams_rest node _ kept rest }
