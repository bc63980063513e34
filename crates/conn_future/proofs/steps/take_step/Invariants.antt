use Rattle.std.proofs.Common.{◌≡◌, ◌+◌, ◌<◌, ◌≤◌}
use Rattle.http_dialog.specs.Dialogs.{room}
use Rattle.http_dialog.specs.Driving.{ComesOn}
use Rattle.http_dialog.specs.Numbers.{AddsOnly}
use Rattle.conn_future.proofs.steps.take_step.Given as goal

abbrev pub invariant-turns : goal.invariant-turns
invariant-turns g l = record {
  budget : l.fn.dialog.left + l.budget ≡ l.dialog.left + 64;
  some : 0 < l.budget;
  reads : g.L.TryLink.read_faults l.fn.link ≤ g.L.TryLink.read_faults l.link;
  writes : g.L.TryLink.write_faults l.fn.link ≤ g.L.TryLink.write_faults l.link;
  waits : g.L.TryLink.waits l.fn.link ≤ g.L.TryLink.waits l.link;
  only : AddsOnly l.fn.number (g.H.Serve.served l.fn.serve) (g.H.Serve.served l.serve);
  goes : ComesOn l.fn.number (g.L.TryLink.left l.fn.link) (g.L.TryLink.left l.link) (g.H.Serve.served l.fn.serve) (g.H.Serve.served l.serve)
      (g.L.TryLink.written l.fn.link) (g.L.TryLink.written l.link) l.fn.dialog l.dialog;
}

abbrev pub decreases-turns : goal.decreases-turns
decreases-turns g l = room l.dialog
