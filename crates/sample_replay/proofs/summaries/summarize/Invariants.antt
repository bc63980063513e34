use Rattle.std.proofs.Common.{◌≡◌, ◌≤◌, ◌-◌, false, map}
use Rattle.task_run.specs.Lives.{effects_of}
use Rattle.task_run.specs.Plans.{graph_of}
use Rattle.sample_points.specs.Samples.{samples}
use Rattle.sample_replay.specs.Summaries.{HasCounted}
use Rattle.sample_replay.proofs.summaries.summarize.Given as goal

-- the run was fed the first points, and what they gave is counted
abbrev pub invariant-running : goal.invariant-running
invariant-running g l =
    let node = g.N.Node in
    record {
      within : l.done ≤ l.count;
      spent : l.run.spent ≡ false;
      lives : l.run.lives ≡ map (graph_of node.spec) l.fn.plans.items;
      points : l.run.points ≡ samples l.done;
      counted : HasCounted l.names (effects_of node.answer l.run.lives l.run.points) l.counts.points l.counts.bytes l.counts.topics;
    }

abbrev pub decreases-running : goal.decreases-running
decreases-running g l = l.count - l.done
