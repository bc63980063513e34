use Rattle.std.proofs.Common.{subst, sym}
use Rattle.std.specs.List.{AllByRecursion as Each}
use Rattle.task_run.specs.Plans.{IsPlan}
use Rattle.engine_runs.proofs.PlaceLaws.{each_more}
use Rattle.engine_runs.proofs.restoring.put_plan.Goals as goal

pub returns-clause-plans : goal.returns-clause-plans
returns-clause-plans g c = λ plans.
    let Planned = IsPlan g.N.Node.spec g.N.Node.ports g.N.Node.life g.N.Node.number in
    subst (Each Planned) (sym c.in_ok-push-2.ensures.items) (each_more Planned c.args.plans.now.items c.in-Ok.made.1 plans c.in-Ok.ensures.plan)
