use Rattle.std.proofs.Common.{◌≡◌, ◌^◌, ◌-◌, ◌≤◌, List, [], false, IsTrue}
use Rattle.kap_io.specs.Disk.{Elsewhere, On}
use Rattle.kap_io.specs.Moments.{Moments}
use Rattle.gate_log.specs.Logs.{Rests}
use Rattle.store_records.specs.declared.rec.Rec.{Rec}
use Rattle.store_kept.specs.Keeping.{AreValid, kept_of}
use Rattle.topic_store.specs.Rewriting.{IsCopying, IsSource}
use Rattle.topic_store.proofs.copying.copy_records.Given as goal

abbrev pub invariant-copying : goal.invariant-copying
invariant-copying g l = record {
  so_far : IsTrue g.D.Disk.tells → (rs : List Rec) → IsSource rs (g.D.Disk.seen l.fn.disk) (g.D.Disk.may_leave l.fn.disk) l.fn.old (kept_of l.fn.all)
      → Rests [] (g.D.Disk.seen l.fn.disk) (g.D.Disk.may_leave l.fn.disk) l.fn.begun → (l.fn.old.part ≡ l.fn.begun.part → ⊥)
      → IsCopying rs l.gate (g.D.Disk.seen l.disk) (g.D.Disk.may_leave l.disk) l.fn.old (kept_of l.fn.all) l.log (kept_of l.kept);
  moments : IsTrue g.D.Disk.tells → (rs : List Rec) → IsSource rs (g.D.Disk.seen l.fn.disk) (g.D.Disk.may_leave l.fn.disk) l.fn.old (kept_of l.fn.all)
      → Rests [] (g.D.Disk.seen l.fn.disk) (g.D.Disk.may_leave l.fn.disk) l.fn.begun → (l.fn.old.part ≡ l.fn.begun.part → ⊥)
      → Moments g.D.Disk.moment g.D.Disk.may_leave g.D.Disk.left_since l.fn.disk l.disk (On l.fn.begun.part (λ _ _. Unit {0}));
  elsewhere : IsTrue g.D.Disk.tells → Elsewhere l.fn.begun.part (g.D.Disk.seen l.fn.disk) (g.D.Disk.seen l.disk);
  part : l.log.part ≡ l.fn.begun.part;
  usable : l.log.spent ≡ false;
  valid : AreValid (kept_of l.kept);
  first : 8 ≤ l.gate;
  faults : g.D.Disk.faults l.fn.disk ≤ g.D.Disk.faults l.disk;
}

abbrev pub decreases-copying : goal.decreases-copying
decreases-copying g l = 2 ^ 64 - l.gate
