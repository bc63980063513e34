use Rattle.std.proofs.Common.{◌≡◌, ◌+◌, ◌<◌, ℕ, List, false, length}
use Rattle.std.specs.List.{AllByRecursion as Each}
use Rattle.kap_base.specs.Points.{PointValue}
use Rattle.flow_core.specs.Nets.{HasStreamsCarried}
use Rattle.store_records.specs.declared.task.Life.{Life}
use Rattle.tick_compile.specs.declared.tasks.Task.{Task}
use Rattle.engine_runs.specs.Running.{HasRun}
use Rattle.engine_runs.proofs.TellLaws.{RanOn}
use Rattle.engine_runs.proofs.runs.EngineRun.run_on.Given as goal

-- some of the points have run, and what was done with them is told
abbrev pub invariant-running : goal.invariant-running
invariant-running g l = record {
  unspent : l.self.spent ≡ false;
  names : l.self.names ≡ l.fn.self.names;
  runs : (lives : List Life) (tasks : List Task) (before : List PointValue) (more : ℕ) → HasRun g.N.Node g.N.ScriptNode.planned lives tasks before (length l.points + more) l.fn.self
      → RanOn g.N.Node g.N.ScriptNode.planned lives tasks before l.points l.rest more l.fn.text l.text l.fn.told.items l.told.items l.self;
  streams : length l.rest < length l.points → Each (HasStreamsCarried g.N.Node) l.self.net.lives;
}

abbrev pub decreases-running : goal.decreases-running
decreases-running g l = length l.rest
