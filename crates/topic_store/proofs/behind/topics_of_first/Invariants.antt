use Rattle.std.proofs.Common.{◌-◌, ◌≤◌, List, length, IsTrue}
use Rattle.kap_io.specs.Moments.{Quiet}
use Rattle.store_records.specs.Histories.{held}
use Rattle.store_records.specs.declared.rec.Rec.{Rec}
use Rattle.topic_store.specs.Behind.{AreBehind}
use Rattle.topic_store.specs.Stores.{IsOn}
use Rattle.topic_store.proofs.behind.topics_of_first.Given as goal

abbrev pub invariant-taking : goal.invariant-taking
invariant-taking g l = record {
  so_far : IsTrue g.D.Disk.tells → (rs : List Rec) → IsOn rs (g.D.Disk.seen l.fn.disk) (g.D.Disk.may_leave l.fn.disk) l.fn.store
      → l.wanted ≤ length (held rs).transitions → AreBehind (held rs).transitions l.topics l.taken;
  within : l.taken ≤ l.wanted;
  quiet : IsTrue g.D.Disk.tells → Quiet g.D.Disk.seen g.D.Disk.moment g.D.Disk.may_leave g.D.Disk.left_since l.fn.disk l.disk;
  faults : g.D.Disk.faults l.fn.disk ≤ g.D.Disk.faults l.disk;
}

abbrev pub decreases-taking : goal.decreases-taking
decreases-taking g l = l.initial.wanted - l.taken
