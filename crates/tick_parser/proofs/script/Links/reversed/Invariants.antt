use Rattle.std.proofs.Common.{◌≡◌}
use Rattle.tick_parser.specs.Trees.{NoJoints, joints_onto, joints_tree}
use Rattle.tick_parser.proofs.script.Links.reversed.Given as goal

abbrev pub invariant-loop-self : goal.invariant-loop-self
invariant-loop-self l = joints_onto (joints_tree l.self) (joints_tree l.turned) ≡ joints_onto (joints_tree l.fn.self) NoJoints
