use Rattle.std.proofs.Common.{◌≤◌, length}
use Rattle.net_run.specs.declared.TheConstants.{EPOCH_LIMIT}
use Rattle.kap_server.proofs.telling.logged_points.Given as goal

-- there are no more than an epoch has
abbrev pub invariant-taking : goal.invariant-taking
invariant-taking l = record {
  few : length l.points.items ≤ EPOCH_LIMIT;
}
