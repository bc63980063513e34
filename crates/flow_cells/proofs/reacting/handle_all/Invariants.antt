use Rattle.std.proofs.Common.{◌≡◌, length}
use Rattle.std.specs.List.{AllZip}
use Rattle.merge_node.proofs.BufferLaws.{total}
use Rattle.flow_cells.specs.Handled.{Handles, Waits}
use Rattle.flow_cells.proofs.reacting.handle_all.Given as goal

-- what was determined so far was handled
abbrev pub invariant-handling : goal.invariant-handling
invariant-handling g l = record {
  outs : AllZip Waits l.fn.core.outs.items l.core.outs.items;
  handles : Handles g.N.Node l.fn.core l.fn.buffer l.core l.buffer;
  parents : length l.buffer ≡ length l.fn.buffer;
  gathered : l.core.gathered ≡ l.fn.core.gathered;
}

abbrev pub decreases-handling : goal.decreases-handling
decreases-handling g l = total l.buffer
