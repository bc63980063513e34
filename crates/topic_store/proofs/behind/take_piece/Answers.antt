use Rattle.std.proofs.Common.{◌≡◌, ◌-◌, min, List, length, take, refl, ap, ◌∙◌, arith}
use Rattle.std.proofs.lemmas.Result.{err_from_is_err_and}
use Rattle.topic_core.specs.declared.transition.Transition.{Transition}
use Rattle.store_records.specs.Histories.{held}
use Rattle.topic_store.specs.Pieces.{piece_behind}
use Rattle.topic_store.proofs.TransitionLaws.{all_next, not_stopped, taken_fault, taken_is, takes}
use Rattle.topic_store.proofs.behind.take_piece.Goals as goal

pub returns-in_err-piece-clause-topics : goal.returns-in_err-piece-clause-topics
returns-in_err-piece-clause-topics g c = λ tells rs on enough behind.
    let p = err_from_is_err_and c.from_residual.result c.from_residual.ensures.1 in
    rw (p.1, p.2) (taken_fault (held rs).transitions (piece_behind c.args.taken (held rs).transitions) c.args.topics.now c.in_err-piece.field-0.0
    (c.in_err-piece.ensures.transitions tells rs on))

pub returns-then-not-goes_on-clause-topics : goal.returns-then-not-goes_on-clause-topics
returns-then-not-goes_on-clause-topics g c = λ tells rs on enough behind.
    let ts = (held rs).transitions in
    let piece = c.in_ok-piece.piece in
    let count = c.min-count.result in
    let is : piece ≡ piece_behind c.args.taken ts = c.in_ok-piece.ensures.transitions tells rs on in
    let least : count ≡ min (length piece) (c.args.wanted - c.args.taken) = omega (arith, c.min-count.ensures, c.len.ensures) in
    let first : c.split_at.result.0.now ≡ take count piece = c.split_at.ensures.front ∙ ap (λ (l : List Transition). take count l) c.as_slice.ensures in
    let at = taken_is ts c.args.taken c.args.wanted piece is c.requires.more enough count least c.split_at.result.0.now first in
    absurd (not_stopped ts c.args.taken c.args.wanted piece is c.requires.more enough count least c.split_at.result.0.now first (all_next rs on.stored.follow)
    c.in_ok-goes_on.goes_on (c.in_ok-goes_on.ensures.next (take c.args.taken ts) behind at) c.if-not-goes_on.true)

pub returns-clause-topics : goal.returns-clause-topics
returns-clause-topics g c = λ tells rs on enough behind.
    let ts = (held rs).transitions in
    let piece = c.in_ok-piece.piece in
    let count = c.min-count.result in
    let is : piece ≡ piece_behind c.args.taken ts = c.in_ok-piece.ensures.transitions tells rs on in
    let least : count ≡ min (length piece) (c.args.wanted - c.args.taken) = omega (arith, c.min-count.ensures, c.len.ensures) in
    let first : c.split_at.result.0.now ≡ take count piece = c.split_at.ensures.front ∙ ap (λ (l : List Transition). take count l) c.as_slice.ensures in
    takes ts c.args.taken c.args.wanted piece is c.requires.more enough count least c.split_at.result.0.now first c.take_transitions.new.topics _ refl
    (c.in_ok-goes_on.ensures.kept (take c.args.taken ts) behind c.if-not-goes_on.false)
