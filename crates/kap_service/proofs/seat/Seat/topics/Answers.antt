use Rattle.std.proofs.Common.{List, ap, subst, ◌∙◌}
use mathlib.Core.List.{IsPrefix}
use Rattle.topic_core.specs.declared.transition.Transition.{Transition}
use Rattle.kap_service.specs.Values.{Seats}
use Rattle.kap_service.proofs.StoreLaws.{prefix_trans}
use Rattle.kap_service.proofs.seat.Seat.topics.Goals as goal

pub returns-clause-later : goal.returns-clause-later
returns-clause-later g c =
    let learnt = c.learn.new.self.known in
    prefix_trans c.args.self.now.known learnt c.copy.new.self.known
    (subst (λ (z : List Transition). IsPrefix z learnt) (ap (λ (x : Seats). x.known) c.self.view_is) c.learn.ensures.before)
    c.copy.ensures.later

pub returns-clause-own : goal.returns-clause-own
returns-clause-own g c =
    let learnt = c.learn.new.self.known in
    prefix_trans c.args.self.now.told learnt c.copy.new.self.known
    (subst (λ (z : List Transition). IsPrefix z learnt)
    (c.again.ensures ∙ ap (λ (x : Seats). x.told) c.self.view_is) c.learn.ensures.told)
    c.copy.ensures.later
