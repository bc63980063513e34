use Rattle.std.proofs.Common.{arith}
use Rattle.sample_replay.proofs.RecordLaws.{at_err, none_written, prefix_of_all, prefix_so_far}
use Rattle.sample_replay.proofs.records.write_samples.Goals as goal

pub writing-init : goal.writing-init
writing-init g c = record { within = omega arith; written = none_written _; later = omega arith }

pub returns-in_err-text-clause-err : goal.returns-in_err-text-clause-err
returns-in_err-text-clause-err g c =
    let on = c.writing.invariant in
    at_err c.from_residual.result (prefix_so_far _ _ c.writing.done c.args.count on.written on.within)

pub returns-in_err-write_all-clause-err : goal.returns-in_err-write_all-clause-err
returns-in_err-write_all-clause-err g c =
    let on = c.writing.invariant in
    let low = c.min-next.ensures in
    at_err c.from_residual-in_err-write_all.result
    (prefix_of_all _ _ _ c.writing.done c.min-next.result c.args.count c.in_ok-text.text on.written (rw c.as_slice.ensures at c.in_err-write_all.ensures.err) c.in_ok-text.ensures (grind arith))
