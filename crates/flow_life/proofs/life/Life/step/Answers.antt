use Rattle.std.proofs.Common.{ap, rules, subst, sym, ◌∙◌}
use Rattle.std.proofs.lemmas.List.{places, with_items_is}
use Rattle.std.specs.List.{AllByRecursion as Each}
use Rattle.flow_life.specs.Loads.{IsGathered}
use Rattle.flow_life.specs.Trying.{IsGatheredBut, SameEnabled, mover}
use Rattle.flow_life.proofs.life.Life.step.Goals as goal

pub returns-in-Ok-clause-others : goal.returns-in-Ok-clause-others
returns-in-Ok-clause-others g c = λ gathered.
    let here = with_items_is c.self.inside.cells c.step.new.cells (search (rules, places)) in
    let before = subst (λ cells. Each IsGathered cells) (sym (c.deref_mut.ensures.value ∙ ap (λ v. v.cells) c.self.view_is)) gathered in
    subst (λ cells. IsGatheredBut (mover c.args.next) cells) (sym here) (c.in-Ok.ensures.others before)

pub returns-in-Ok-clause-still : goal.returns-in-Ok-clause-still
returns-in-Ok-clause-still g c = λ none.
    let here = with_items_is c.self.inside.cells c.step.new.cells (search (rules, places)) in
    let old = c.deref_mut.ensures.value ∙ ap (λ v. v.cells) c.self.view_is in
    subst (λ cells. SameEnabled c.args.self.now.cells cells) (sym here) (subst (λ cells. SameEnabled cells c.step.new.cells) old (c.in-Ok.ensures.still none))
