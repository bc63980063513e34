use Rattle.std.proofs.Common.{◌≡◌, ◌++◌, ◌^◌, ◌-◌, ◌≤◌, List, IsTrue, length, map}
use Rattle.kap_io.specs.Moments.{Quiet}
use Rattle.gate_log.specs.Logs.{Rests}
use Rattle.store_records.specs.Histories.{Follow, end_of}
use Rattle.store_records.specs.Records.{spell_record}
use Rattle.store_records.specs.declared.rec.Rec.{Rec}
use Rattle.topic_store.specs.Pieces.{HasPassed}
use Rattle.topic_store.proofs.pieces.piece_from.Given as goal

abbrev pub invariant-reading : goal.invariant-reading
invariant-reading g l = record {
  so_far : IsTrue g.D.Disk.tells → (rs before behind : List Rec) → Follow rs
      → Rests (map spell_record rs) (g.D.Disk.seen l.fn.disk) (g.D.Disk.may_leave l.fn.disk) l.fn.log → rs ≡ before ++ behind
      → l.fn.start.gate ≡ end_of before
      → HasPassed g.T.Numbered.stored before behind l.fn.start.skip l.fn.wanted l.gate l.skip l.piece.items;
  few : length l.piece.items ≤ l.fn.wanted;
  quiet : IsTrue g.D.Disk.tells → Quiet g.D.Disk.seen g.D.Disk.moment g.D.Disk.may_leave g.D.Disk.left_since l.fn.disk l.disk;
  faults : g.D.Disk.faults l.fn.disk ≤ g.D.Disk.faults l.disk;
}

abbrev pub decreases-reading : goal.decreases-reading
decreases-reading g l = 2 ^ 64 - l.gate
