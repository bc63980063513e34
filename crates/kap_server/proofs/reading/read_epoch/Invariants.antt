use Rattle.std.proofs.Common.{◌≡◌, ◌-◌, ◌^◌, ◌≤◌, ◌<◌, false, length}
use Rattle.recording_file.specs.Reading.{HoldsGroup}
use Rattle.kap_server.specs.Epochs.{GavePoints}
use Rattle.kap_server.proofs.reading.read_epoch.Given as goal

-- the points so far are those that the reader gave, and fewer than there may be; where it held the first one it holds the next one,
-- and the source is as it was
abbrev pub invariant-reading : goal.invariant-reading
invariant-reading g l =
    let source = g.S.Source in
    record {
      not_spent : l.reader.spent ≡ false;
      gave : GavePoints l.initial.reader l.reader (source.left l.initial.input) (source.left l.input) l.points.items;
      few : length l.points.items < l.limit;
      asks : HoldsGroup l.initial.reader → l.input ≡ l.initial.input;
      holds : HoldsGroup l.initial.reader → HoldsGroup l.reader;
      later : source.faults l.initial.input ≤ source.faults l.input;
    }

abbrev pub decreases-reading : goal.decreases-reading
decreases-reading g l = 2 ^ 30 - length l.reader.given
