use Rattle.std.proofs.Common.{◌≡◌, ◌-◌, ◌^◌, ◌≤◌, None, false, length, map}
use Rattle.effect_text.specs.Lines.{events_of}
use Rattle.task_run.specs.Lives.{effects_of}
use Rattle.task_run.specs.Plans.{graph_of}
use Rattle.topic_core.specs.Topics.{StandsFor}
use Rattle.kap_server.specs.Ahead.{HasToldBehind}
use Rattle.kap_server.specs.Runs.{run_text}
use Rattle.kap_server.proofs.replaying.replay.Given as goal

-- the points so far are the first of the input, the run was fed them, and their text is written or due; the reader stands behind
-- them, or behind the next epoch
abbrev pub invariant-replaying : goal.invariant-replaying
invariant-replaying g l =
    let source = g.S.Source in
    let sink = g.K.Sink in
    let node = g.N.Node in
    let run = l.telling.run in
    record {
      kept : l.ran ≡ l.initial.ran;
      not_spent : l.reading.ahead ≡ None → l.reading.reader.spent ≡ false;
      alive : run.spent ≡ false;
      lives : run.lives ≡ map (graph_of node.spec) l.fn.plans.items;
      topics : StandsFor (events_of (effects_of node.answer run.lives run.points)) l.telling.topics;
      behind : HasToldBehind (run_text node.answer l.names (map (graph_of node.spec) l.fn.plans.items)) l.text run.points l.reading.reader l.reading.ahead (source.left l.initial.input) (source.left l.input) (sink.written l.initial.out) (sink.written l.out);
      reads_later : source.faults l.initial.input ≤ source.faults l.input;
      writes_later : sink.faults l.initial.out ≤ sink.faults l.out;
    }

abbrev pub decreases-replaying : goal.decreases-replaying
decreases-replaying g l = 2 ^ 30 - length l.telling.run.points
