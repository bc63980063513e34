use Rattle.std.proofs.Common.{◌≤◌, ◌+◌, vec_len, vec_capacity}
use Rattle.conn_loop.specs.Links.{telling}
use Rattle.conn_loop.specs.Passes.{HasPassed}
use Rattle.conn_loop.proofs.passing.pass.Given as goal

abbrev pub invariant-passing : goal.invariant-passing
invariant-passing g l = record {
  passed : HasPassed
      (telling g.L.TryLink.left g.L.TryLink.written g.L.TryLink.read_faults g.L.TryLink.write_faults g.L.TryLink.waits)
      l.ready (g.H.Serve.served l.fn.serve) (g.H.Serve.served l.serve) l.fn.slots.items l.slots.items l.finished.items l.left;
  room : vec_len l.finished + l.left ≤ vec_capacity l.finished;
}

abbrev pub decreases-passing : goal.decreases-passing
decreases-passing g l = l.left
