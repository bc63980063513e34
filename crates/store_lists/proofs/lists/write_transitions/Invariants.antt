use Rattle.std.proofs.Common.{◌≡◌, ◌≤◌, List, length}
use Rattle.std.specs.Prelude.{IsTrue}
use Rattle.kap_io.specs.Moments.{Quiet}
use Rattle.store_records.specs.Histories.{held}
use Rattle.store_records.specs.declared.rec.Rec.{Rec}
use Rattle.topic_core.specs.Print.{transition_line}
use Rattle.topic_store.specs.Stores.{IsOn}
use Rattle.store_lists.proofs.PieceLaws.{IsListing}
use Rattle.store_lists.proofs.lists.write_transitions.Given as goal

-- the first transitions were read, and their lines put
abbrev pub invariant-writing : goal.invariant-writing
invariant-writing g l = record {
  so_far : IsTrue g.D.Disk.tells → (rs : List Rec) → IsOn rs (g.D.Disk.seen l.fn.disk) (g.D.Disk.may_leave l.fn.disk) l.store
      → (s : IsListing transition_line (held rs).transitions l.text (g.K.Sink.written l.fn.out) (g.K.Sink.written l.out)) × (l.after ≡ length s.passed);
  quiet : IsTrue g.D.Disk.tells → Quiet g.D.Disk.seen g.D.Disk.moment g.D.Disk.may_leave g.D.Disk.left_since l.fn.disk l.disk;
  later : g.K.Sink.faults l.fn.out ≤ g.K.Sink.faults l.out;
  disk_later : g.D.Disk.faults l.fn.disk ≤ g.D.Disk.faults l.disk;
}
