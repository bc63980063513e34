use Rattle.std.proofs.Common.{◌≡◌}
use Rattle.std.specs.Prelude.{filter}
use Rattle.window_node.specs.Edges.{is_live, takes}
use Rattle.window_node.proofs.edges.part.Given as goal

-- what was dealt is in the batch and among the live points
abbrev pub invariant-parting : goal.invariant-parting
invariant-parting l = record {
  batch : l.batch ≡ filter (takes l.window l.edge) l.yielded;
  live : l.live ≡ filter (is_live l.window l.next) l.yielded;
}
