use Rattle.std.proofs.Common.{◌≡◌, ◌≤◌, length}
use Rattle.http_dialog.specs.Driving.{GoesOn}
use Rattle.conn_future.proofs.link_io.flush.Given as goal

abbrev pub invariant-writing : goal.invariant-writing
invariant-writing g l = record {
  held : l.dialog.held ≡ l.fn.dialog.held;
  left : l.dialog.left ≡ l.fn.dialog.left;
  ending : l.dialog.ending ≡ l.fn.dialog.ending;
  reads : g.L.TryLink.read_faults l.fn.link ≤ g.L.TryLink.read_faults l.link;
  writes : g.L.TryLink.write_faults l.fn.link ≤ g.L.TryLink.write_faults l.link;
  waits : g.L.TryLink.waits l.fn.link ≤ g.L.TryLink.waits l.link;
  goes : GoesOn (g.L.TryLink.left l.fn.link) (g.L.TryLink.left l.link) (g.L.TryLink.written l.fn.link) (g.L.TryLink.written l.link) l.fn.dialog l.dialog;
}

abbrev pub decreases-writing : goal.decreases-writing
decreases-writing g l = length l.dialog.due
