use Rattle.std.proofs.Common.{◌≡◌, ◌++◌, ◌≤◌}
use Rattle.sample_points.specs.Samples.{sample_text}
use Rattle.sample_replay.proofs.records.records_behind.Given as goal

-- the records of the numbers that were passed stand there
abbrev pub invariant-recording : goal.invariant-recording
invariant-recording l = record {
  after : l.from ≤ l.number;
  within : l.number ≤ l.to;
  text : sample_text l.number ≡ sample_text l.from ++ l.text;
}
