use Rattle.std.proofs.Common.{◌≡◌, ◌≤◌}
use Rattle.conn_loop.specs.Serving.{Counts}
use Rattle.conn_loop.proofs.serving.serve_door.Given as goal

abbrev pub invariant-serving : goal.invariant-serving
invariant-serving g l =
    ((goal.iterator-serving g).can_next l.iterator' × (goal.iterator-serving g).is_finite l.iterator')
    × (l.serving.links ≡ l.serving.open.added)
    × Counts (g.B.TryDoor.left l.fn.door) (g.B.TryDoor.left l.door) l.serving.links l.serving.closed
    × (g.B.TryDoor.faults l.fn.door ≤ g.B.TryDoor.faults l.door)
    × (g.Y.Ready.faults l.fn.ready ≤ g.Y.Ready.faults l.ready)
