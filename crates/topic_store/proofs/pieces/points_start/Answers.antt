use Rattle.std.proofs.Common.{List, length, ap, ◌∙◌}
use Rattle.kap_base.specs.Points.{PointValue}
use Rattle.store_records.specs.Held.{points_in}
use Rattle.topic_store.proofs.PieceLaws.{leads, points_are}
use Rattle.topic_store.proofs.pieces.points_start.Goals as goal

pub returns : goal.returns
returns c rs are =
    let is = c.last_place-place.ensures rs are in
    leads points_in rs c.last_place-place.result is c.last_place-place.result.points c.args.number c.start_from.result
    (is.points ∙ ap (λ (l : List PointValue). length l) (points_are is.before)) c.start_from.ensures
