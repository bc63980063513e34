use Rattle.std.proofs.Common.{List, [], ℕ, ◌≤◌, subst, arith}
use Rattle.std.specs.FinMap.{entries}
use Rattle.std.specs.List.{flat_map}
use Rattle.kap_base.specs.Maps.{KeyMap}
use Rattle.kap_base.specs.declared.items.Level.{Level}
use Rattle.store_lists.specs.Lists.{topic_lines}
use Rattle.store_lists.proofs.WriteLaws.{IsPutting, lists_cut, lists_rest, putting_cut, putting_done, putting_more}
use Rattle.store_lists.proofs.topics.write_topics.Goals as goal

pub returns-in-Err-clause-lists : goal.returns-in-Err-clause-lists
returns-in-Err-clause-lists g c =
    let lines = topic_lines c.args.levels.now in
    let all = flat_map lines (entries c.args.levels.now) in
    let w = g.K.Sink.written c.args.out.now in
    let v = g.K.Sink.written c.writing.out in
    let x = g.K.Sink.written c.put_topic.new.out in
    lists_cut c.in-Err.fault all [] w x
    (putting_cut c.in-Err.fault [] all (lines (c.in-Some.topic.now, c.in-Some.ids.now)) (flat_map lines c.next.new.self) c.writing.text c.put_topic.new.text [] w v x
    (subst (λ (l : List (List ℕ × KeyMap Level)). IsPutting [] all (flat_map lines l) c.writing.text w v) c.in-Some.ensures.steps c.writing.invariant.so_far)
    c.in-Err.ensures.puts)

pub writing-preserved : goal.writing-preserved
writing-preserved g c =
    let lines = topic_lines c.args.levels.now in
    let all = flat_map lines (entries c.args.levels.now) in
    let w = g.K.Sink.written c.args.out.now in
    let v = g.K.Sink.written c.writing.out in
    let before : g.K.Sink.faults c.args.out.now ≤ g.K.Sink.faults c.writing.out = c.writing.invariant.later in
    let after : g.K.Sink.faults c.writing.out ≤ g.K.Sink.faults c.put_topic.new.out = c.put_topic.ensures.cause.later in
    record {
      so_far =
          putting_more [] all (lines (c.in-Some.topic.now, c.in-Some.ids.now)) (flat_map lines c.next.new.self) c.writing.text c.put_topic.new.text w v (g.K.Sink.written c.put_topic.new.out)
          (subst (λ (l : List (List ℕ × KeyMap Level)). IsPutting [] all (flat_map lines l) c.writing.text w v) c.in-Some.ensures.steps c.writing.invariant.so_far)
          c.in_default.ensures.puts;
      later = omega (arith, before, after);
    }

pub returns-clause-lists : goal.returns-clause-lists
returns-clause-lists g c =
    let lines = topic_lines c.args.levels.now in
    let all = flat_map lines (entries c.args.levels.now) in
    let w = g.K.Sink.written c.args.out.now in
    let v = g.K.Sink.written c.writing.out in
    lists_rest c.write_rest.result all c.writing.text w v (g.K.Sink.written c.write_rest.new.out)
    (putting_done [] all c.writing.text w v (subst (λ (l : List (List ℕ × KeyMap Level)). IsPutting [] all (flat_map lines l) c.writing.text w v) c.in-None.ensures.steps.0 c.writing.invariant.so_far))
    c.write_rest.ensures.lists
