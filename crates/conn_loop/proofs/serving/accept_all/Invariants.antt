use Rattle.std.proofs.Common.{◌≡◌, ◌≤◌, Option, ℕ}
use Rattle.conn_loop.specs.Serving.{Counts}
use Rattle.conn_loop.proofs.serving.accept_all.Given as goal

abbrev pub invariant-accepting : goal.invariant-accepting
invariant-accepting g l = record {
  counted : l.serving.links ≡ l.serving.open.added;
  counts : (left : Option ℕ) → Counts left (g.B.TryDoor.left l.fn.door) l.fn.serving.links l.fn.serving.closed
      → Counts left (g.B.TryDoor.left l.door) l.serving.links l.serving.closed;
  door : g.B.TryDoor.faults l.fn.door ≤ g.B.TryDoor.faults l.door;
  ready : g.Y.Ready.faults l.fn.ready ≤ g.Y.Ready.faults l.ready;
}
