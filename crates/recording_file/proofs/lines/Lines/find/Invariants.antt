use Rattle.std.proofs.Common.{◌≡◌, ◌-◌, ◌≤◌, length}
use Rattle.std.specs.List.{position_or_len}
use Rattle.recording_file.specs.Lines.{is_feed}
use Rattle.recording_file.specs.Finding.{HoldsLines, Stays}
use Rattle.recording_file.proofs.lines.Lines.find.Given as goal

-- nothing is given, no line feed stands among the bytes that were searched, and where the next line is held nothing was read
abbrev pub invariant-finding : goal.invariant-finding
invariant-finding g l =
    let source = g.S.Source in
    record {
      stays : Stays l.initial.self l.self (source.left l.initial.source) (source.left l.source);
      searched : l.searched ≤ length l.self.bytes;
      no_feed : l.searched ≤ position_or_len is_feed l.self.bytes;
      held : HoldsLines 1 l.initial.self → (l.self ≡ l.initial.self) × (l.source ≡ l.initial.source);
      later : source.faults l.initial.source ≤ source.faults l.source;
    }

abbrev pub decreases-finding : goal.decreases-finding
decreases-finding g l = 65538 - length l.self.bytes
