use Rattle.std.proofs.Common.{◌-◌, ◌≤◌, IsTrue}
use Rattle.kap_io.specs.Moments.{Quiet}
use Rattle.kap_io.specs.declared.disk.Part.TheVariants.{Head}
use Rattle.gate_log.specs.Head.{RunSoFar}
use Rattle.gate_log.proofs.head.count_gates.Given as goal

abbrev pub invariant-gates : goal.invariant-gates
invariant-gates g l = record {
  within : l.run ≤ l.gates;
  so_far : IsTrue g.D.Disk.tells → RunSoFar l.run (g.D.Disk.seen l.fn.disk Head);
  quiet : IsTrue g.D.Disk.tells → Quiet g.D.Disk.seen g.D.Disk.moment g.D.Disk.may_leave g.D.Disk.left_since l.fn.disk l.disk;
  faults : g.D.Disk.faults l.fn.disk ≤ g.D.Disk.faults l.disk;
}

abbrev pub decreases-gates : goal.decreases-gates
decreases-gates g l = l.gates - l.run
