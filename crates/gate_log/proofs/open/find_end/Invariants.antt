use Rattle.std.proofs.Common.{◌≡◌, length, take, ◌-◌, ◌<◌, ◌≤◌, IsTrue}
use Rattle.kap_io.specs.Moments.{Quiet}
use Rattle.gate_log.specs.Bodies.{magic}
use Rattle.gate_log.specs.Reading.{Reached}
use Rattle.gate_log.proofs.open.find_end.Given as goal

abbrev pub invariant-gates : goal.invariant-gates
invariant-gates g l = record {
  within : l.gate < l.size;
  reached : IsTrue g.D.Disk.tells → l.size ≡ length (g.D.Disk.seen l.fn.disk l.part) → take 8 (g.D.Disk.seen l.fn.disk l.part) ≡ magic
      → Reached l.gate (g.D.Disk.seen l.fn.disk l.part);
  quiet : IsTrue g.D.Disk.tells → Quiet g.D.Disk.seen g.D.Disk.moment g.D.Disk.may_leave g.D.Disk.left_since l.fn.disk l.disk;
  faults : g.D.Disk.faults l.fn.disk ≤ g.D.Disk.faults l.disk;
}

abbrev pub decreases-gates : goal.decreases-gates
decreases-gates g l = l.initial.size - l.gate
