use Rattle.std.proofs.Common.{◌≡◌, [], ◌-◌, ◌≤◌, IsTrue}
use Rattle.kap_io.specs.Moments.{Quiet}
use Rattle.gate_log.specs.Readers.{HasRead}
use Rattle.store_kept.specs.Keeping.{AreValid, kept_of}
use Rattle.topic_store.specs.Opening.{SoFar}
use Rattle.topic_store.proofs.opening.read_records.Given as goal

abbrev pub invariant-reading : goal.invariant-reading
invariant-reading g l = record {
  so_far : IsTrue g.D.Disk.tells → HasRead [] (g.D.Disk.seen l.fn.disk) (g.D.Disk.may_leave l.fn.disk) l.fn.begun
      → SoFar (g.D.Disk.seen l.disk) (g.D.Disk.may_leave l.disk) l.reader (kept_of l.kept) l.topics;
  part : l.reader.part ≡ l.fn.begun.part;
  quiet : IsTrue g.D.Disk.tells → Quiet g.D.Disk.seen g.D.Disk.moment g.D.Disk.may_leave g.D.Disk.left_since l.fn.disk l.disk;
  faults : g.D.Disk.faults l.fn.disk ≤ g.D.Disk.faults l.disk;
  valid : AreValid (kept_of l.kept);
}

abbrev pub decreases-reading : goal.decreases-reading
decreases-reading g l = l.reader.size - l.reader.gate
