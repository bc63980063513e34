use Rattle.std.proofs.Common.{◌≡◌, ◌++◌}
use Rattle.std.specs.Vec.Iter.{into_iter_items}
use Rattle.tick_compile.specs.Changes.{eval_results}
use Rattle.tick_compile.proofs.changes.eval_results.Given as goal

abbrev pub invariant-pairing : goal.invariant-pairing
invariant-pairing g l = l.results ++ eval_results (into_iter_items l.lambda-iterator) (into_iter_items l.names) ≡ eval_results l.fn.lambdas l.fn.names
