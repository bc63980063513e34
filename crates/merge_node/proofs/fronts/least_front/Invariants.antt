use Rattle.std.proofs.Common.{◌≡◌, ◌+◌, length}
use Rattle.merge_node.specs.Looking.{looked, looked_from}
use Rattle.merge_node.proofs.fronts.least_front.Given as goal

-- the rest and the best so far make what all make
abbrev pub invariant-looking : goal.invariant-looking
invariant-looking l = record {
  parents : l.parent + length l.rest ≡ length l.buffers;
  looked : looked_from l.best l.parent l.rest ≡ looked l.buffers;
}

abbrev pub decreases-looking : goal.decreases-looking
decreases-looking l = length l.rest
