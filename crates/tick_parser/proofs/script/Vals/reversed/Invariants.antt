use Rattle.std.proofs.Common.{◌≡◌}
use Rattle.tick_parser.specs.Trees.{NoVals, vals_onto, vals_tree}
use Rattle.tick_parser.proofs.script.Vals.reversed.Given as goal

abbrev pub invariant-loop-self : goal.invariant-loop-self
invariant-loop-self l = vals_onto (vals_tree l.self) (vals_tree l.turned) ≡ vals_onto (vals_tree l.fn.self) NoVals
