use Rattle.std.proofs.Common.{◌≡◌, ◌≤◌, length, None, reverse, vec_len}
use Rattle.std.specs.List.{AllZip}
use Rattle.merge_node.specs.Buffers.{next}
use Rattle.flow_cells.specs.Handled.{Waits}
use Rattle.flow_cells.proofs.LoadLaws.{Loading}
use Rattle.flow_cells.proofs.loads.handle_source.Given as goal

-- what came so far was handled
abbrev pub invariant-handling : goal.invariant-handling
invariant-handling g l = record {
  outs : AllZip Waits l.fn.core.outs.items l.core.outs.items;
  gathered : l.core.gathered ≡ l.fn.core.gathered;
  stuck : next l.buffer ≡ None;
  parents : length l.buffer ≡ length l.fn.buffer;
  ports : length l.buffer ≤ g.N.Node.ports (g.N.Node.spec l.core.node);
  loading : Loading g.N.Node l.fn.source.items (reverse l.rest.items) l.fn.core l.fn.buffer l.core l.buffer;
}

abbrev pub decreases-handling : goal.decreases-handling
decreases-handling g l = vec_len l.rest
