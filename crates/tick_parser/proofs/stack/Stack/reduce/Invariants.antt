use Rattle.std.proofs.Common.{◌≡◌, length}
use Rattle.kap_base.specs.Tree.{tree_of}
use Rattle.tick_parser.specs.Lambdas.{reduce}
use Rattle.tick_parser.specs.Stack.{frames_of, IsCounted}
use Rattle.tick_parser.proofs.stack.Stack.reduce.Given as goal

-- Closing what is left of the stack over the tree that is held is what closing was at the start.
abbrev pub invariant-loop-frame : goal.invariant-loop-frame
invariant-loop-frame l = record {
  same : reduce l.least (frames_of l.self) (tree_of l.tree) ≡ reduce l.fn.least (frames_of l.fn.self) (tree_of l.fn.tree);
  counted : IsCounted l.self;
  count : l.self.count ≡ l.fn.self.count;
}

abbrev pub decreases-loop-frame : goal.decreases-loop-frame
decreases-loop-frame l = length l.self.frames.items
