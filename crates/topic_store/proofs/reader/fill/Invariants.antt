use Rattle.std.proofs.Common.{◌-◌, ◌≤◌, ◌^◌, List, IsTrue, map}
use Rattle.kap_base.specs.Points.{PointValue}
use Rattle.kap_io.specs.Moments.{Quiet}
use Rattle.gate_log.specs.Logs.{Rests}
use Rattle.store_records.specs.Histories.{Follow}
use Rattle.store_records.specs.Records.{spell_record}
use Rattle.store_records.specs.declared.rec.Rec.{Rec}
use Rattle.topic_store.specs.Points.{IsBefore, state_of}
use Rattle.topic_store.proofs.reader.fill.Given as goal

abbrev pub invariant-filling : goal.invariant-filling
invariant-filling g l = record {
  stands : IsTrue g.D.Disk.tells → (rs : List Rec) (points : List PointValue) → Follow rs
      → Rests (map spell_record rs) (g.D.Disk.seen l.fn.disk) (g.D.Disk.may_leave l.fn.disk) l.fn.log
      → IsBefore rs points (state_of l.fn.from) → IsBefore rs points (state_of l.ahead);
  quiet : IsTrue g.D.Disk.tells → Quiet g.D.Disk.seen g.D.Disk.moment g.D.Disk.may_leave g.D.Disk.left_since l.fn.disk l.disk;
  first : l.fn.from.gate ≤ l.ahead.gate;
  faults : g.D.Disk.faults l.fn.disk ≤ g.D.Disk.faults l.disk;
}

abbrev pub decreases-filling : goal.decreases-filling
decreases-filling g l = 2 ^ 64 - l.ahead.gate
