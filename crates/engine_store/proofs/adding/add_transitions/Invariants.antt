use Rattle.std.proofs.Common.{◌≡◌, ◌≤◌, ◌++◌, [], false, List, length, IsTrue}
use Rattle.kap_io.specs.Moments.{Moments}
use Rattle.store_kept.specs.Keeping.{AreValid}
use Rattle.store_records.specs.Held.{are_next}
use Rattle.store_records.specs.Histories.{held}
use Rattle.store_records.specs.declared.rec.Rec.{Rec}
use Rattle.topic_store.specs.Stores.{IsOn}
use Rattle.engine_store.specs.Adding.{stands_with_some}
use Rattle.engine_store.proofs.AddLaws.{IsAdding}
use Rattle.engine_store.proofs.adding.add_transitions.Given as goal

abbrev pub invariant-adding : goal.invariant-adding
invariant-adding g l = record {
  so_far : IsTrue g.D.Disk.tells → (rs : List Rec) → IsOn rs (g.D.Disk.seen l.fn.disk) (g.D.Disk.may_leave l.fn.disk) l.fn.store
      → IsTrue (are_next (held rs).transitions l.fn.due.items) → IsAdding rs l.fn.due.items l.rest.items (g.D.Disk.seen l.disk) (g.D.Disk.may_leave l.disk) l.store;
  moments : IsTrue g.D.Disk.tells → (rs : List Rec) → IsOn rs (g.D.Disk.seen l.fn.disk) (g.D.Disk.may_leave l.fn.disk) l.fn.store
      → IsTrue (are_next (held rs).transitions l.fn.due.items) → Moments g.D.Disk.moment g.D.Disk.may_leave g.D.Disk.left_since l.fn.disk l.disk (stands_with_some rs l.fn.due.items);
  given : l.fn.due.items ≡ l.given.items ++ l.rest.items;
  none : l.fn.due.items ≡ [] → (l.rest.items ≡ []) × (l.disk ≡ l.fn.disk);
  usable : l.store.log.spent ≡ false;
  valid : AreValid l.fn.store.kept → AreValid l.store.kept;
  later : g.D.Disk.faults l.fn.disk ≤ g.D.Disk.faults l.disk;
}

abbrev pub decreases-adding : goal.decreases-adding
decreases-adding g l = length l.rest.items
