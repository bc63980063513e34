use Rattle.std.proofs.Common.{◌≡◌, ◌++◌, drop, take}
use Rattle.merge_node.specs.Buffers.{without_fronts}
use Rattle.merge_node.proofs.fronts.drop_fronts.Given as goal

-- the fronts of the buffers that were passed are taken
abbrev pub invariant-dropping : goal.invariant-dropping
invariant-dropping l = l.buffers ≡ without_fronts (take l.buffer-index l.fn.buffers) ++ drop l.buffer-index l.fn.buffers
