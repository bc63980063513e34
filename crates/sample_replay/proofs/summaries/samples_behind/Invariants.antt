use Rattle.std.proofs.Common.{◌≡◌, ◌++◌, ◌≤◌}
use Rattle.sample_points.specs.Samples.{samples}
use Rattle.sample_replay.proofs.summaries.samples_behind.Given as goal

-- the points of the numbers that were passed stand there
abbrev pub invariant-sampling : goal.invariant-sampling
invariant-sampling l = record {
  after : l.from ≤ l.number;
  within : l.number ≤ l.to;
  points : samples l.number ≡ samples l.from ++ l.points.items;
}
