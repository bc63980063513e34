use Rattle.std.proofs.Common.{◌≡◌, take}
use Rattle.window_node.proofs.batches.last_copies.Given as goal

-- what was passed is copied
abbrev pub invariant-copying : goal.invariant-copying
invariant-copying l = l.copies.items ≡ take l.point-index l.rest
