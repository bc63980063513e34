use Rattle.state_code.proofs.Loops.{one_taken}
use Rattle.store_records.specs.Lines.{read_point}
use Rattle.store_records.proofs.lines.read_many.Goals as goal

pub reading-preserved : goal.reading-preserved
reading-preserved c =
    rw c.in_ok-push.ensures.ok (one_taken (read_point c.args.db.now c.args.rp.now) c.args.count c.reading.counter c.reading.points c.in_ok-point.point c.args.from.now c.reading.from c.read_point.new.from c.reading-test.true c.in_ok-point.ensures c.reading.invariant)
