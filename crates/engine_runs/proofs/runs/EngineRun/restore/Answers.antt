use Rattle.std.proofs.Common.{◌≡◌, [], Err, sym, ap, subst, arith}
use Rattle.std.specs.Prelude.{IsErrOf}
use Rattle.std.specs.List.{AllByRecursion as Each}
use Rattle.barrier_snapshot.specs.Captures.{IsCapture, in_lives}
use Rattle.flow_core.specs.Making.{HasFewParents}
use Rattle.task_run.specs.Plans.{IsPlan}
use Rattle.engine_runs.specs.Restoring.{HasPlanned}
use Rattle.engine_runs.specs.declared.fault.RunFault.{RunFault}
use Rattle.engine_runs.specs.declared.fault.RunFault.TheVariants.{States}
use Rattle.engine_runs.proofs.PlanLaws.{planned_none}
use Rattle.engine_runs.proofs.RestoreLaws.{restored_run, specs_planned}
use Rattle.engine_runs.proofs.runs.EngineRun.restore.Goals as goal

fault_of : {T : Type 0} (f g : RunFault) → IsErrOf {T = T} (Err f) g → f ≡ g
fault_of f g e = cc

pub restore_net-requires-clause-few : goal.restore_net-requires-clause-few
restore_net-requires-clause-few g c = c.in_default.ensures.few (subst (Each HasFewParents) (sym c.new-plans.ensures.items) tt)

pub returns-clause-runs : goal.returns-clause-runs
returns-clause-runs g c = λ tasks before there are long spans same snap stands times.
    let node = g.N.Node in
    let planned = g.N.ScriptNode.planned in
    let lives = c.args.lives.now in
    let met = g.met.N.Node g.world.𝓛 g.world.𝓜 g.world.𝓡 (λ s x. x, λ x. x, λ x. x, λ x. x) in
    let script = g.met.N.ScriptNode g.world.𝓛 g.world.𝓜 g.world.𝓡 (λ s x. x, λ x. x, λ x. x, λ x. x) in
    let start : HasPlanned node.spec planned lives there c.args.numbers.now c.new-names.result.items c.new-plans.result.items =
    subst (λ ns. HasPlanned node.spec planned lives there c.args.numbers.now ns c.new-plans.result.items) (sym c.new-names.ensures.items)
    (subst (λ ps. HasPlanned node.spec planned lives there c.args.numbers.now [] ps) (sym c.new-plans.ensures.items) (planned_none node.spec planned lives there c.args.numbers.now same)) in
    let h = c.in_default.ensures.planned there same start in
    let runs = restored_run node planned script.sits met.spelled lives tasks before there _ _ _ c.args.states.now c.in-Ok.net are h spans snap c.in-Ok.ensures.restores (omega (arith, long)) in
    record { lives_run = runs.runs; away = runs.away; topics = stands; times = times; count = long }

pub returns-clause-fits : goal.returns-clause-fits
returns-clause-fits g c = λ tasks there are same.
    let node = g.N.Node in
    let planned = g.N.ScriptNode.planned in
    let lives = c.args.lives.now in
    let start : HasPlanned node.spec planned lives there c.args.numbers.now c.new-names.result.items c.new-plans.result.items =
    subst (λ ns. HasPlanned node.spec planned lives there c.args.numbers.now ns c.new-plans.result.items) (sym c.new-names.ensures.items)
    (subst (λ ps. HasPlanned node.spec planned lives there c.args.numbers.now [] ps) (sym c.new-plans.ensures.items) (planned_none node.spec planned lives there c.args.numbers.now same)) in
    let h = c.in_default.ensures.planned there same start in
    let kept = c.in_default.ensures.plans (subst (Each (IsPlan node.spec node.ports node.life node.number)) (sym c.new-plans.ensures.items) tt) in
    let specs = specs_planned node planned lives tasks there _ _ are h kept in
    let holds = in_lives node.state c.in-Ok.ensures.restores.loaded in
    (holds, subst (λ ps. IsCapture node.fits node.spell ps holds c.args.states.now) (sym specs) c.in-Ok.ensures.restores.are.states)

pub returns-in-Err-restore_net-clause-states : goal.returns-in-Err-restore_net-clause-states
returns-in-Err-restore_net-clause-states g c = λ e tasks there holds are same capture.
    let node = g.N.Node in
    let planned = g.N.ScriptNode.planned in
    let lives = c.args.lives.now in
    let start : HasPlanned node.spec planned lives there c.args.numbers.now c.new-names.result.items c.new-plans.result.items =
    subst (λ ns. HasPlanned node.spec planned lives there c.args.numbers.now ns c.new-plans.result.items) (sym c.new-names.ensures.items)
    (subst (λ ps. HasPlanned node.spec planned lives there c.args.numbers.now [] ps) (sym c.new-plans.ensures.items) (planned_none node.spec planned lives there c.args.numbers.now same)) in
    let h = c.in_default.ensures.planned there same start in
    let kept = c.in_default.ensures.plans (subst (Each (IsPlan node.spec node.ports node.life node.number)) (sym c.new-plans.ensures.items) tt) in
    let specs = specs_planned node planned lives tasks there _ _ are h kept in
    let is : c.in-Err-restore_net.fault ≡ States = fault_of c.in-Err-restore_net.fault States e in
    c.in-Err-restore_net.ensures.states holds (ap (λ f. Err f) is) (subst (λ ps. IsCapture node.fits node.spell ps holds c.args.states.now) specs capture)
