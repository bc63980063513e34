use Rattle.std.proofs.Common.{◌≡◌, ◌-◌, ◌^◌, ◌<◌, ℕ, List, Option, Some, false, length}
use Rattle.recording_file.specs.Reading.{HoldsGroup}
use Rattle.kap_server.specs.Epochs.{GavePoints, IsLeft}
use Rattle.kap_server.proofs.reading.read_held.Given as goal

-- the points so far are those that the reader gave, whatever is left of its source, and it holds the next one
abbrev pub invariant-reading : goal.invariant-reading
invariant-reading l = record {
  not_spent : l.reader.spent ≡ false;
  gave : (t : Option (List ℕ)) → GavePoints l.initial.reader l.reader t t l.points.items;
  few : length l.points.items < l.limit;
  holds : HoldsGroup l.reader;
  left : IsLeft (Some l.source.left);
  faults : l.source.faults ≡ 0;
}

abbrev pub decreases-reading : goal.decreases-reading
decreases-reading l = 2 ^ 30 - length l.reader.given
