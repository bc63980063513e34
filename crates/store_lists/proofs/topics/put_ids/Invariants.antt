use Rattle.std.proofs.Common.{◌≤◌}
use Rattle.std.specs.FinMap.{entries}
use Rattle.std.specs.List.{flat_map}
use Rattle.store_lists.specs.Lists.{id_line}
use Rattle.store_lists.proofs.WriteLaws.{IsPutting}
use Rattle.store_lists.proofs.topics.put_ids.Given as goal

-- the lines of the first ids were put
abbrev pub invariant-putting : goal.invariant-putting
invariant-putting g l = record {
  so_far : IsPutting l.fn.text (flat_map id_line (entries l.ids)) (flat_map id_line l.id-iterator) l.text (g.K.Sink.written l.fn.out) (g.K.Sink.written l.out);
  later : g.K.Sink.faults l.fn.out ≤ g.K.Sink.faults l.out;
}
