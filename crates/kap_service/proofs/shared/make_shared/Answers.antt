use Rattle.std.proofs.Common.{◌≡◌, List, subst}
use Rattle.std.specs.List.{All}
use Rattle.topic_core.specs.declared.transition.Transition.{Transition}
use Rattle.kap_service.specs.Values.{Seats}
use Rattle.kap_service.proofs.shared.make_shared.Goals as goal

pub new-state-requires-clause-posted : goal.new-state-requires-clause-posted
new-state-requires-clause-posted g c owned store left =
    let right = c.requires.owned owned in
    c.in-Ok-show_stored.ensures.posted right store (c.show_stored.ensures.read.stores right store left)

pub returns-clause-told : goal.returns-clause-told
returns-clause-told g c right store left =
    subst (λ (z : List Transition). All (λ (s : Seats). s.told ≡ z) c.in-Ok-seats_of.seats.items)
    (c.in-Ok-show_stored.ensures.told right store left) c.in-Ok-seats_of.ensures.told
