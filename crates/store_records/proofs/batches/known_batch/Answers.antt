use Rattle.std.proofs.Common.{sym, ◌∙◌}
use Rattle.store_records.proofs.BatchLaws.{batch_is, points_of}
use Rattle.store_records.proofs.batches.known_batch.Goals as goal

pub returns-in-Some-2 : goal.returns-in-Some-2
returns-in-Some-2 c r is =
    let points = points_of c.args.bytes.now c.in-Some.front.db c.in-Some.front.rp c.in-Some.front.rest.now (sym (rw c.in-Some.is at c.in_ok-front.ensures.names))
    c.in-Some-number_front.count c.in-Some-number_front.lines.now c.in-Some-number_front.ensures r is in
    batch_is c.in-Some.front.db c.in-Some.front.rp c.in-Some-2.points points.0 r (sym c.in-Some-2.is ∙ c.in_ok-points.ensures points.0 points.1) points.2
