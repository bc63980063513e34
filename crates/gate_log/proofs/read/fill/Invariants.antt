use Rattle.std.proofs.Common.{length, ◌-◌, ◌≤◌, IsTrue}
use Rattle.kap_io.specs.Moments.{Quiet}
use Rattle.gate_log.specs.Reading.{Placed}
use Rattle.gate_log.proofs.read.fill.Given as goal

abbrev pub invariant-filling : goal.invariant-filling
invariant-filling g l = record {
  within : l.count ≤ length l.buf;
  placed : IsTrue g.D.Disk.tells → Placed l.at (g.D.Disk.seen l.fn.disk l.part) l.buf l.count;
  quiet : IsTrue g.D.Disk.tells → Quiet g.D.Disk.seen g.D.Disk.moment g.D.Disk.may_leave g.D.Disk.left_since l.fn.disk l.disk;
  faults : g.D.Disk.faults l.fn.disk ≤ g.D.Disk.faults l.disk;
}

abbrev pub decreases-filling : goal.decreases-filling
decreases-filling g l = length l.initial.buf - l.count
