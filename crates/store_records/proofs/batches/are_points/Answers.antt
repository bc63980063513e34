use Rattle.std.proofs.Common.{sym, ◌∙◌}
use Rattle.store_records.proofs.BatchLaws.{one_checked}
use Rattle.store_records.proofs.batches.are_points.Goals as goal

pub checking-preserved : goal.checking-preserved
checking-preserved c =
    one_checked c.args.db.now c.args.rp.now c.args.count c.args.bytes.now c.checking.counter c.checking.rest.now c.in-Some.line.now c.in-Some.behind.now c.checking-test.true c.in-Some.ensures
    (sym c.if-not-branch.false ∙ c.in_ok-is_point_line.ensures) c.checking.invariant
