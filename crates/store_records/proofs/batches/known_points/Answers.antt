use Rattle.std.proofs.Common.{sym, ◌∙◌}
use Rattle.store_records.proofs.BatchLaws.{next_line, no_line_there, one_read}
use Rattle.store_records.proofs.batches.known_points.Goals as goal

pub returns-in_default : goal.returns-in_default
returns-in_default c all is =
    absurd (no_line_there c.args.db.now c.args.rp.now c.args.count c.args.bytes.now c.reading.counter c.reading.rest.now c.reading.points c.reading-test.true c.in_default.ensures c.reading.invariant all is)

pub returns-in_default-2 : goal.returns-in_default-2
returns-in_default-2 c all is =
    let p = next_line c.args.db.now c.args.rp.now c.args.count c.args.bytes.now c.reading.counter c.reading.rest.now c.in-Some.line.now c.in-Some.behind.now c.reading.points c.reading-test.true c.in-Some.ensures c.reading.invariant all is in
    absurd (c.in_default-2.not-Some _ (c.in_ok-point.ensures p.0 p.1))

pub reading-preserved : goal.reading-preserved
reading-preserved c all is =
    rw c.in_ok-push.ensures.ok (one_read c.args.db.now c.args.rp.now c.args.count c.args.bytes.now c.reading.counter c.reading.rest.now c.in-Some.line.now c.in-Some.behind.now c.reading.points c.in-Some-2.point c.reading-test.true c.in-Some.ensures
    (λ p there. sym c.in-Some-2.is ∙ c.in_ok-point.ensures p there) c.reading.invariant all is)
