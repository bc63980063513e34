use Rattle.std.proofs.Common.{◌≤◌, drop}
use Rattle.std.specs.List.{flat_map}
use Rattle.store_lists.proofs.WriteLaws.{IsPutting}
use Rattle.store_lists.proofs.writing.put_all.Given as goal

-- the lines of the first items were put
abbrev pub invariant-putting : goal.invariant-putting
invariant-putting g l = record {
  so_far : IsPutting l.fn.text (flat_map g.T.Listed.lines l.items) (flat_map g.T.Listed.lines (drop l.item-index l.items)) l.text (g.K.Sink.written l.fn.out) (g.K.Sink.written l.out);
  later : g.K.Sink.faults l.fn.out ≤ g.K.Sink.faults l.out;
}
