use Rattle.std.proofs.Common.{◌≡◌, drop, arith}
use Rattle.std.proofs.Math.Seq.{take-add}
use Rattle.std.proofs.KnownBytes.{Appends-trans}
use Rattle.kap_io.proofs.sink.write_all.Goals as goal

pub writing-preserved : goal.writing-preserved
writing-preserved g c =
    let bytes = c.args.bytes.now in
    let rest : drop c.writing.done bytes ≡ c.split_at.result.1.now = cc in
    record {
      in_bytes = grind arith;
      written = rw (take-add c.writing.done c.in_ok-done.field-0 bytes, rest) (Appends-trans _ _ _ _ _ c.writing.invariant.written c.in_ok-done.ensures.bytes);
      later = grind arith;
    }
