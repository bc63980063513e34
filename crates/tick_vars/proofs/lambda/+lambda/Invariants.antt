use Rattle.std.proofs.Common.{◌≡◌, ◌≤◌, Ok}
use Rattle.kap_base.specs.Tree.{reversed_onto, trees_of}
use Rattle.kap_base.specs.Words.{◌>>=◌}
use Rattle.kap_base.specs.declared.expr.Exprs.{size-Exprs}
use Rattle.tick_vars.specs.Names.{bound_lambdas, scope_of}
use Rattle.tick_vars.proofs.lambda.+lambda.Given as goal

-- What is left, bound and put behind what was bound so far, is the list, bound.
abbrev pub invariant-bind_lambdas-loop-rest : goal.invariant-bind_lambdas-loop-rest
invariant-bind_lambdas-loop-rest l = record {
  no_deeper : size-Exprs l.rest ≤ size-Exprs l.fn.exprs;
  same : bound_lambdas (scope_of l.names) (trees_of l.fn.exprs) ≡ (bound_lambdas (scope_of l.names) (trees_of l.rest) >>= λ rest. Ok (reversed_onto (trees_of l.turned) rest));
}
