use Rattle.std.proofs.Common.{subst}
use Rattle.barrier_snapshot.specs.Restoring.{Restores}
use Rattle.flow_tests.proofs.captures.go_on_from.Goals as goal

pub returns : goal.returns
returns g c = record {
  restored = c.in-Ok.net;
  restores = subst (λ plans. Restores g.N.Node plans c.args.there c.args.bytes.now c.in-Ok.net) c.in_ok-plans.ensures.items c.in-Ok.ensures.restores;
  ran = c.in_ok-run_load.ensures;
}
