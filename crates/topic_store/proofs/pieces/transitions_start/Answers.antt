use Rattle.std.proofs.Common.{List, length, ap, ◌∙◌}
use Rattle.topic_core.specs.declared.transition.Transition.{Transition}
use Rattle.store_records.specs.Held.{transitions_in}
use Rattle.topic_store.proofs.PieceLaws.{leads, transitions_are}
use Rattle.topic_store.proofs.pieces.transitions_start.Goals as goal

pub returns : goal.returns
returns c rs are =
    let is = c.last_place-place.ensures rs are in
    leads transitions_in rs c.last_place-place.result is c.last_place-place.result.transitions c.args.number c.start_from.result
    (is.transitions ∙ ap (λ (l : List Transition). length l) (transitions_are is.before)) c.start_from.ensures
