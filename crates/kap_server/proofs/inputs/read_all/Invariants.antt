use Rattle.std.proofs.Common.{◌-◌, ◌≤◌, length}
use Rattle.std.specs.Io.KnownBytes.{Consumes}
use Rattle.kap_server.proofs.inputs.read_all.Given as goal

-- what was read so far is the first of the input, and no more than may be
abbrev pub invariant-reading : goal.invariant-reading
invariant-reading g l = record {
  took : Consumes (g.S.Source.left l.initial.input) (g.S.Source.left l.input) l.text;
  few : length l.text ≤ l.limit;
  later : g.S.Source.faults l.initial.input ≤ g.S.Source.faults l.input;
}

abbrev pub decreases-reading : goal.decreases-reading
decreases-reading g l = l.limit - length l.text
