use Rattle.std.proofs.Common.{◌≤◌, ◌-◌}
use Rattle.std.specs.Io.KnownBytes.{Appends}
use Rattle.sample_points.specs.Samples.{sample_text}
use Rattle.sample_replay.proofs.records.write_samples.Given as goal

-- the recording of the first points is written
abbrev pub invariant-writing : goal.invariant-writing
invariant-writing g l =
    let sink = g.K.Sink in
    record {
      within : l.done ≤ l.count;
      written : Appends (sink.written l.initial.out) (sink.written l.out) (sample_text l.done);
      later : sink.faults l.initial.out ≤ sink.faults l.out;
    }

abbrev pub decreases-writing : goal.decreases-writing
decreases-writing g l = l.count - l.done
