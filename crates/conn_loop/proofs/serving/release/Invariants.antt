use Rattle.std.proofs.Common.{◌≤◌}
use Rattle.conn_loop.proofs.serving.release.Given as goal

abbrev pub invariant-releasing : goal.invariant-releasing
invariant-releasing g l = g.Y.Ready.faults l.fn.ready ≤ g.Y.Ready.faults l.ready
