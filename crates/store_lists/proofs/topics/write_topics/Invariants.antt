use Rattle.std.proofs.Common.{◌≤◌, []}
use Rattle.std.specs.FinMap.{entries}
use Rattle.std.specs.List.{flat_map}
use Rattle.store_lists.specs.Lists.{topic_lines}
use Rattle.store_lists.proofs.WriteLaws.{IsPutting}
use Rattle.store_lists.proofs.topics.write_topics.Given as goal

-- the lines of the first topics were put
abbrev pub invariant-writing : goal.invariant-writing
invariant-writing g l = record {
  so_far : IsPutting [] (flat_map (topic_lines l.levels) (entries l.levels)) (flat_map (topic_lines l.levels) l.topic-iterator) l.text (g.K.Sink.written l.fn.out) (g.K.Sink.written l.out);
  later : g.K.Sink.faults l.fn.out ≤ g.K.Sink.faults l.out;
}
