use Rattle.std.proofs.Common.{◌≡◌, ◌-◌, List, drop, false, length}
use Rattle.std.specs.List.{AllByRecursion as Each}
use Rattle.kap_base.specs.Points.{PointValue}
use Rattle.flow_core.specs.Nets.{IsResting}
use Rattle.tick_compile.specs.declared.tasks.Task.{Task}
use Rattle.engine_runs.specs.Running.{LivesRun}
use Rattle.engine_runs.specs.Scripts.{AreTasksOf}
use Rattle.engine_runs.specs.Spans.{IsAway}
use Rattle.engine_runs.proofs.turning.begin_lives.Given as goal

-- some of the lives that begin have begun
abbrev pub invariant-beginning : goal.invariant-beginning
invariant-beginning g l = record {
  unspent : l.net.spent ≡ false;
  rest : Each IsResting l.net.lives;
  gathered : l.net.gathered ≡ l.fn.net.gathered;
  last : l.net.last ≡ l.fn.net.last;
  kept : g.P.Patterns.refusals l.pats ≡ g.P.Patterns.refusals l.fn.pats;
  away : Each (IsAway l.points 0) (drop (length l.fn.names.items) l.lives) → Each (IsAway l.points 0) (drop (length l.names.items) l.lives);
  runs : (tasks : List Task) (before : List PointValue) → l.points ≡ length before → AreTasksOf l.lives tasks → Each (IsAway l.points 0) (drop (length l.fn.names.items) l.lives)
      → LivesRun g.N.Node g.N.ScriptNode.planned l.lives tasks before 1 l.fn.names.items l.fn.net → LivesRun g.N.Node g.N.ScriptNode.planned l.lives tasks before 1 l.names.items l.net;
}

abbrev pub decreases-beginning : goal.decreases-beginning
decreases-beginning g l = length l.lives - length l.names.items
