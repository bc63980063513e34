use Rattle.std.proofs.Common.{◌≡◌, ◌≤◌}
use Rattle.kap_base.specs.Tree.{reversed_onto, trees_of}
use Rattle.kap_base.specs.declared.expr.Exprs.{size-Exprs}
use Rattle.kap_base.proofs.expr.+copy.Given as goal

-- The copies, turned round again and followed by what is left, are the list.
abbrev pub invariant-Exprs::copy-loop-rest : goal.invariant-Exprs::copy-loop-rest
invariant-Exprs::copy-loop-rest l = record {
  no_deeper : size-Exprs l.rest ≤ size-Exprs l.fn.self;
  same : reversed_onto (trees_of l.turned) (trees_of l.rest) ≡ trees_of l.fn.self;
}
