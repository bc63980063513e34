use Rattle.std.proofs.Common.{arith, sym}
use Rattle.store_records.proofs.BatchLaws.{no_value, with_byte, with_points, without_names, without_number, without_points}
use Rattle.store_records.proofs.batches.checked_batch.Goals as goal

pub returns-in_default : goal.returns-in_default
returns-in_default c = without_names c.args.bytes.now (sym (rw (no_value _ c.in_default.not-Some) at c.in_ok-front.ensures.names))

pub returns-in_default-number_front : goal.returns-in_default-number_front
returns-in_default-number_front c =
    without_number c.args.bytes.now c.in-Some.front.db c.in-Some.front.rp c.in-Some.front.rest.now (sym (rw c.in-Some.is at c.in_ok-front.ensures.names)) c.in_default-number_front.ensures

pub returns-then-not-branch : goal.returns-then-not-branch
returns-then-not-branch c =
    without_points c.args.bytes.now c.in-Some.front.db c.in-Some.front.rp c.in-Some.front.rest.now (sym (rw c.in-Some.is at c.in_ok-front.ensures.names))
    c.in-Some-number_front.count c.in-Some-number_front.lines.now c.in-Some-number_front.ensures (rw c.if-not-branch.true at c.in_ok-are_points.ensures)

pub returns : goal.returns
returns c =
    rw c.from.ensures
    (with_points c.args.bytes.now c.in-Some.front.db c.in-Some.front.rp c.in-Some.front.rest.now (sym (rw c.in-Some.is at c.in_ok-front.ensures.names))
    c.in-Some-number_front.count c.in-Some-number_front.lines.now c.in-Some-number_front.ensures (with_byte c.args.bytes.now (λ i. omega (arith, c.type_inv.bytes i))) (rw c.if-not-branch.false at c.in_ok-are_points.ensures))
