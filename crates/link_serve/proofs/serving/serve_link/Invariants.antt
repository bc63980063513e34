use Rattle.std.proofs.Common.{◌≤◌}
use Rattle.http_dialog.specs.Dialogs.{room}
use Rattle.http_dialog.specs.Links.{Goes}
use Rattle.http_dialog.specs.Numbers.{AddsOnly}
use Rattle.link_serve.proofs.serving.serve_link.Given as goal

abbrev pub invariant-turns : goal.invariant-turns
invariant-turns g l = record {
  reads : g.L.Link.read_faults l.fn.link ≤ g.L.Link.read_faults l.link;
  writes : g.L.Link.write_faults l.fn.link ≤ g.L.Link.write_faults l.link;
  only : AddsOnly 0 (g.H.Serve.served l.fn.serve) (g.H.Serve.served l.serve);
  goes : Goes 0 (g.L.Link.left l.fn.link) (g.L.Link.left l.link) (g.H.Serve.served l.fn.serve) (g.H.Serve.served l.serve) (g.L.Link.written l.fn.link) (g.L.Link.written l.link) l.dialog;
}

abbrev pub decreases-turns : goal.decreases-turns
decreases-turns g l = room l.dialog
