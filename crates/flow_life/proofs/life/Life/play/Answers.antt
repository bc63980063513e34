use Rattle.std.proofs.Common.{ap, rules, subst, sym, ◌∙◌}
use Rattle.std.proofs.lemmas.List.{places, with_items_is}
use Rattle.flow_life.specs.Playing.{Plays}
use Rattle.flow_life.proofs.life.Life.play.Goals as goal

pub returns-in-Ok-clause-plays : goal.returns-in-Ok-clause-plays
returns-in-Ok-clause-plays g c =
    let here = with_items_is c.self.inside.cells c.play.new.cells (search (rules, places)) in
    subst (λ cells. Plays c.args.steps.now c.args.self.now.cells c.in-Ok.made cells) (sym here)
    (subst (λ cells. Plays c.args.steps.now cells c.in-Ok.made c.play.new.cells) (c.deref_mut.ensures.value ∙ ap (λ v. v.cells) c.self.view_is) c.in-Ok.ensures.plays)
