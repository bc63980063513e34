use Rattle.std.proofs.Common.{◌≡◌, ◌≤◌, List, false}
use Rattle.std.specs.Prelude.{IsTrue}
use Rattle.kap_io.specs.Moments.{Quiet}
use Rattle.store_records.specs.Histories.{held}
use Rattle.store_records.specs.declared.rec.Rec.{Rec}
use Rattle.tick_compile.specs.declared.tasks.Task.{Task}
use Rattle.topic_store.specs.Stores.{IsOn}
use Rattle.engine_runs.specs.Scripts.{AreTasksOf}
use Rattle.engine_store.specs.Opening.{HasBegun}
use Rattle.engine_store.proofs.ReadLaws.{IsReading, StandsBefore}
use Rattle.engine_store.proofs.opening.run_rest.Given as goal

-- some of the points were read, and have run
abbrev pub invariant-reading : goal.invariant-reading
invariant-reading g l = record {
  unspent : l.run.spent ≡ false;
  kept : g.P.Patterns.refusals l.pats ≡ g.P.Patterns.refusals l.fn.pats;
  quiet : IsTrue g.D.Disk.tells → Quiet g.D.Disk.seen g.D.Disk.moment g.D.Disk.may_leave g.D.Disk.left_since l.fn.disk l.disk;
  later : g.D.Disk.faults l.fn.disk ≤ g.D.Disk.faults l.disk;
  stands : IsTrue g.D.Disk.tells → (rs : List Rec) → IsOn rs (g.D.Disk.seen l.fn.disk) (g.D.Disk.may_leave l.fn.disk) l.store → StandsBefore rs l.reader;
  reads : IsTrue g.D.Disk.tells → (rs : List Rec) (tasks : List Task) → IsOn rs (g.D.Disk.seen l.fn.disk) (g.D.Disk.may_leave l.fn.disk) l.store
      → AreTasksOf (held rs).lives tasks → HasBegun g.N.Node g.N.ScriptNode.planned rs tasks l.fn.run
      → IsReading g.N.Node g.N.ScriptNode.planned rs tasks l.reader l.run l.due.items;
}
