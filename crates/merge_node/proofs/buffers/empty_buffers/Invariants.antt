use Rattle.std.proofs.Common.{◌≡◌, [], replicate}
use Rattle.merge_node.proofs.buffers.empty_buffers.Given as goal

abbrev pub invariant-adding : goal.invariant-adding
invariant-adding l = l.buffers.items ≡ replicate l.counter []
