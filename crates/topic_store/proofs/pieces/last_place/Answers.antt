use Rattle.std.proofs.Common.{◌-◌, List, length, sym, ap, ◌∙◌}
use Rattle.std.specs.List.{slice_get}
use Rattle.store_kept.specs.declared.kept.Mark.{Mark}
use Rattle.topic_store.proofs.PieceLaws.{last_mark}
use Rattle.topic_store.proofs.pieces.last_place.Goals as goal

pub returns-in-Some : goal.returns-in-Some
returns-in-Some c = λ rs are.
    let front = c.split_at.result.0.now in
    last_mark rs c.args.marks.now c.args.count (length front - 1) c.in-Some.mark.now are
    (ap (λ (l : List Mark). slice_get l (length front - 1)) (sym c.split_at.ensures.front) ∙ sym c.in-Some.ensures.value)
