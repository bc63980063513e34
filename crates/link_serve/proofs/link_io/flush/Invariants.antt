use Rattle.std.proofs.Common.{◌≡◌, ◌≤◌, length}
use Rattle.http_dialog.specs.Driving.{GoesOn}
use Rattle.link_serve.proofs.link_io.flush.Given as goal

abbrev pub invariant-writing : goal.invariant-writing
invariant-writing g l = record {
  held : l.dialog.held ≡ l.fn.dialog.held;
  left : l.dialog.left ≡ l.fn.dialog.left;
  ending : l.dialog.ending ≡ l.fn.dialog.ending;
  reads : g.L.Link.read_faults l.fn.link ≤ g.L.Link.read_faults l.link;
  writes : g.L.Link.write_faults l.fn.link ≤ g.L.Link.write_faults l.link;
  goes : GoesOn (g.L.Link.left l.fn.link) (g.L.Link.left l.link) (g.L.Link.written l.fn.link) (g.L.Link.written l.link) l.fn.dialog l.dialog;
}

abbrev pub decreases-writing : goal.decreases-writing
decreases-writing g l = length l.dialog.due
