use Rattle.std.proofs.Common.{◌≡◌, ℕ, ◌+◌, List, Some, length, slice_get, ap, refl, subst, ◌∙◌}
use Rattle.std.specs.Prelude.{◌≢◌, None}
use Rattle.store_records.specs.Held.{life_from}
use Rattle.store_records.specs.declared.task.StoredTask.{StoredTask}
use Rattle.tick_compile.specs.Scripts.{Accepts, Refuses}
use Rattle.tick_compile.specs.Tasks.{refusal_in}
use Rattle.tick_compile.specs.declared.script_fault.ScriptFault.TheVariants as scripts
use Rattle.engine_runs.specs.Scripts.{IsPlanned}
use Rattle.engine_runs.proofs.PlaceLaws.{got_at}
use Rattle.kap_engine.specs.Engines.{EngineValue}
use Rattle.kap_engine.proofs.ChangeLaws.{next_of}
use Rattle.kap_engine.proofs.RefusalLaws.{not_planned}
use Rattle.kap_engine.proofs.engine.Engine.plan_enabled.Goals as goal

pub returns-in-Err-clause-why : goal.returns-in-Err-clause-why
returns-in-Err-clause-why g c =
    let tasks_is = c.tasks.ensures ∙ ap (λ (v : EngineValue _). v.store.kept.tasks) c.self.view_is in
    let there = subst (λ (ts : List StoredTask). slice_get ts c.args.place ≡ Some c.in-Some.task.now) tasks_is
    (got_at c.tasks.result.now c.args.place c.args.place c.in-Some.task.now refl c.in-Some.ensures.lookup.3.0 c.in-Some.ensures.lookup.1) in
    let why = subst (λ (text : List ℕ). c.in-Err.fault ≢ scripts.NoMemory → Refuses (refusal_in c.in-Err.fault (g.P.Patterns.refused c.compile.new.pats)) text c.in-Err.fault) c.bytes.ensures.bytes c.in-Err.ensures.fault in
    rw c.fault_at.ensures
    (not_planned _ _ _ c.part.result _ (c.part.ensures ∙ ap (λ (v : EngineValue _). v.store.log.part) c.self.view_is) _ c.in-Some.task.now there c.if-task.false c.in-Err.fault why c.in-Err.ensures.rose)

pub returns-clause-next : goal.returns-clause-next
returns-clause-next g c = λ n.
    let task = c.in-Some.task.now in
    let tasks_is = c.tasks.ensures ∙ ap (λ (v : EngineValue _). v.store.kept.tasks) c.self.view_is in
    let there = subst (λ (ts : List StoredTask). slice_get ts c.args.place ≡ Some c.in-Some.task.now) tasks_is
    (got_at c.tasks.result.now c.args.place c.args.place c.in-Some.task.now refl c.in-Some.ensures.lookup.3.0 c.in-Some.ensures.lookup.1) in
    let accepts = subst (λ (text : List ℕ). Accepts None text c.in-Ok.made) c.bytes.ensures.bytes c.in-Ok.ensures.task in
    next_of g.N.Node g.N.ScriptNode.planned n _ _ task c.in_ok-next.next there c.if-task.false (record {
      planned_is =
          subst (λ (v : EngineValue _). IsPlanned g.N.ScriptNode.planned g.N.Node.spec g.N.Node.state g.N.Node.first (length v.run.names + 1) (life_from n task) c.in_ok-next.next) c.self.view_is
          (c.in_ok-next.ensures.planned (life_from n task) refl accepts);
      plan = c.in_ok-next.ensures.plan;
    })
