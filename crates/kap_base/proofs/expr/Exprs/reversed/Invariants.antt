use Rattle.std.proofs.Common.{◌≡◌}
use Rattle.kap_base.specs.Tree.{NoTrees, reversed_onto, trees_of}
use Rattle.kap_base.proofs.expr.Exprs.reversed.Given as goal

abbrev pub invariant-loop-self : goal.invariant-loop-self
invariant-loop-self l =
    reversed_onto (trees_of l.self) (trees_of l.turned) ≡ reversed_onto (trees_of l.fn.self) NoTrees
