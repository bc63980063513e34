use Rattle.std.proofs.Common.{◌≤◌, List}
use Rattle.std.specs.Prelude.{IsTrue}
use Rattle.kap_io.specs.Moments.{Quiet}
use Rattle.recording_file.specs.Printed.{record_text}
use Rattle.store_records.specs.Histories.{held}
use Rattle.store_records.specs.declared.rec.Rec.{Rec}
use Rattle.topic_store.specs.Points.{IsBefore}
use Rattle.topic_store.specs.Stores.{IsOn}
use Rattle.store_lists.proofs.PieceLaws.{IsListing}
use Rattle.store_lists.proofs.lists.write_points.Given as goal

-- the first points were read, and their lines put
abbrev pub invariant-writing : goal.invariant-writing
invariant-writing g l = record {
  so_far : IsTrue g.D.Disk.tells → (rs : List Rec) → IsOn rs (g.D.Disk.seen l.fn.disk) (g.D.Disk.may_leave l.fn.disk) l.store
      → (s : IsListing record_text (held rs).points l.text (g.K.Sink.written l.fn.out) (g.K.Sink.written l.out)) × IsBefore rs s.others l.reader;
  quiet : IsTrue g.D.Disk.tells → Quiet g.D.Disk.seen g.D.Disk.moment g.D.Disk.may_leave g.D.Disk.left_since l.fn.disk l.disk;
  later : g.K.Sink.faults l.fn.out ≤ g.K.Sink.faults l.out;
  disk_later : g.D.Disk.faults l.fn.disk ≤ g.D.Disk.faults l.disk;
}
