use Rattle.std.proofs.Common.{length, ◌-◌, ◌≤◌, take}
use Rattle.std.specs.Io.KnownBytes.{Appends}
use Rattle.kap_io.proofs.sink.write_all.Given as goal

-- the prefix that was written so far
abbrev pub invariant-writing : goal.invariant-writing
invariant-writing g l =
    let sink = g.K.Sink in
    record {
      in_bytes : l.done ≤ length l.bytes;
      written : Appends (sink.written l.initial.sink) (sink.written l.sink) (take l.done l.bytes);
      later : sink.faults l.initial.sink ≤ sink.faults l.sink;
    }

abbrev pub decreases-writing : goal.decreases-writing
decreases-writing g l = length l.bytes - l.done
