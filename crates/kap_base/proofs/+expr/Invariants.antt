use Rattle.std.proofs.Common.{◌≤◌}
use Rattle.kap_base.specs.declared.expr.Exprs.{size-Exprs}
use Rattle.kap_base.proofs.+expr.Given as goal

-- What is left is no deeper than the list at the start, so each element is less deep than it.
abbrev pub invariant-expr::Exprs::drop-loop-self : goal.invariant-expr::Exprs::drop-loop-self
invariant-expr::Exprs::drop-loop-self l = size-Exprs l.self ≤ size-Exprs l.fn.self
