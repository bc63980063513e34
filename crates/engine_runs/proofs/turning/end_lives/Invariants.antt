use Rattle.std.proofs.Common.{◌≡◌, List, [], false, length}
use Rattle.std.specs.List.{AllByRecursion as Each}
use Rattle.kap_base.specs.Points.{PointValue}
use Rattle.effect_text.specs.declared.names.TaskNames.{TaskNames}
use Rattle.flow_core.specs.Nets.{IsResting}
use Rattle.tick_compile.specs.declared.tasks.Task.{Task}
use Rattle.engine_runs.specs.Running.{LivesRun}
use Rattle.engine_runs.proofs.turning.end_lives.Given as goal

-- some of the lives that have ended are gone
abbrev pub invariant-ending : goal.invariant-ending
invariant-ending g l = record {
  unspent : l.net.spent ≡ false;
  rest : Each IsResting l.net.lives;
  none : l.net.gathered ≡ [];
  last : l.net.last ≡ l.fn.net.last;
  runs : (tasks : List Task) (before : List PointValue) (names : List TaskNames) → l.points ≡ length before
      → LivesRun g.N.Node g.N.ScriptNode.planned l.lives tasks before 0 names l.fn.net → LivesRun g.N.Node g.N.ScriptNode.planned l.lives tasks before 0 names l.net;
}

abbrev pub decreases-ending : goal.decreases-ending
decreases-ending g l = length l.net.lives
