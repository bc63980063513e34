use Rattle.std.proofs.Common.{◌≡◌, ◌-◌, Bool, List, length}
use Rattle.std.specs.List.{AllByRecursion as Each}
use Rattle.flow_core.specs.Making.{HasFewParents}
use Rattle.task_run.specs.Plans.{IsPlan}
use Rattle.engine_runs.specs.Restoring.{HasPlanned}
use Rattle.engine_runs.specs.Spans.{numbers_from, picked}
use Rattle.engine_runs.proofs.restoring.plan_open.Given as goal

-- some of the lives were planned
abbrev pub invariant-planning : goal.invariant-planning
invariant-planning g l = record {
  kept : g.P.Patterns.refusals l.pats ≡ g.P.Patterns.refusals l.fn.pats;
  plans : Each (IsPlan g.N.Node.spec g.N.Node.ports g.N.Node.life g.N.Node.number) l.fn.plans.items → Each (IsPlan g.N.Node.spec g.N.Node.ports g.N.Node.life g.N.Node.number) l.plans.items;
  few : Each HasFewParents l.fn.plans.items → Each HasFewParents l.plans.items;
  planned : (runs : List Bool) → l.numbers ≡ picked runs (numbers_from 1 l.lives) → HasPlanned g.N.Node.spec g.N.ScriptNode.planned l.lives runs l.numbers l.fn.names.items l.fn.plans.items
      → HasPlanned g.N.Node.spec g.N.ScriptNode.planned l.lives runs l.rest l.names.items l.plans.items;
}

abbrev pub decreases-planning : goal.decreases-planning
decreases-planning g l = length l.lives - length l.names.items
