use Rattle.std.proofs.Common.{List, sym, subst}
use Rattle.topic_core.specs.declared.transition.Transition.{Transition}
use Rattle.store_records.specs.Held.{transitions_in}
use Rattle.store_records.specs.Histories.{held}
use Rattle.store_kept.specs.Keeping.{AreMarks}
use Rattle.topic_store.specs.Pieces.{PieceOrNot}
use Rattle.topic_store.proofs.PieceLaws.{piece_of, transitions_are}
use Rattle.topic_store.proofs.store.Store.transitions.Goals as goal

pub returns-clause-transitions : goal.returns-clause-transitions
returns-clause-transitions g c =
    rw (← c.self.view_is) (
    λ tells rs on.
    let lead = c.transitions_start-start.ensures rs (subst (AreMarks rs) (sym c.deref.ensures.value) on.kept.marks) in
    let is = piece_of transitions_in rs c.args.after c.self.inside.kept.transitions c.piece_len-wanted.result c.transitions_start-start.result (held rs).transitions lead
    (transitions_are rs) on.kept.keeps.transitions c.piece_len-wanted.ensures in
    subst (λ (l : List Transition). PieceOrNot l c.piece_from.result) is.is
    (c.piece_from.ensures.found tells rs lead.before lead.behind on.stored.follow on.log lead.split lead.at_gate is.enough)
    )
