use Rattle.std.proofs.Common.{List, sym, subst}
use Rattle.kap_base.specs.Points.{PointValue}
use Rattle.store_records.specs.Held.{points_in}
use Rattle.store_records.specs.Histories.{held}
use Rattle.store_kept.specs.Keeping.{AreMarks}
use Rattle.topic_store.specs.Pieces.{PieceOrNot}
use Rattle.topic_store.proofs.PieceLaws.{piece_of, points_are}
use Rattle.topic_store.proofs.store.Store.points.Goals as goal

pub returns-clause-points : goal.returns-clause-points
returns-clause-points g c =
    rw (← c.self.view_is) (
    λ tells rs on.
    let lead = c.points_start-start.ensures rs (subst (AreMarks rs) (sym c.deref.ensures.value) on.kept.marks) in
    let is = piece_of points_in rs c.args.after c.self.inside.kept.points c.piece_len-wanted.result c.points_start-start.result (held rs).points lead
    (points_are rs) on.kept.keeps.points c.piece_len-wanted.ensures in
    subst (λ (l : List PointValue). PieceOrNot l c.piece_from.result) is.is
    (c.piece_from.ensures.found tells rs lead.before lead.behind on.stored.follow on.log lead.split lead.at_gate is.enough)
    )
