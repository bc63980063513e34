use Rattle.std.proofs.Common.{◌≡◌, List, false, length}
use Rattle.kap_base.specs.Points.{PointValue}
use Rattle.tick_compile.specs.declared.tasks.Task.{Task}
use Rattle.engine_runs.specs.Running.{HasRun}
use Rattle.engine_runs.specs.Scripts.{AreTasksOf}
use Rattle.engine_runs.specs.Spans.{FirstsRise}
use Rattle.engine_runs.proofs.RunLaws.{RanSome}
use Rattle.engine_runs.proofs.runs.EngineRun.run.Given as goal

-- some of the points have run
abbrev pub invariant-running : goal.invariant-running
invariant-running g l = record {
  unspent : l.self.spent ≡ false;
  kept : g.P.Patterns.refusals l.pats ≡ g.P.Patterns.refusals l.fn.pats;
  runs : (tasks : List Task) (before : List PointValue) → AreTasksOf l.lives tasks → FirstsRise l.lives → HasRun g.N.Node g.N.ScriptNode.planned l.lives tasks before 0 l.fn.self
      → RanSome g.N.Node g.N.ScriptNode.planned l.lives tasks before l.points l.rest l.stored l.fn.due.items l.self l.due.items;
}

abbrev pub decreases-running : goal.decreases-running
decreases-running g l = length l.rest
