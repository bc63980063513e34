use Rattle.std.proofs.Common.{ap, refl, sym, subst, ◌∙◌, ◌≡◌, ℕ, ◌+◌, ◌∷◌, length}
use Rattle.std.specs.Prelude.{None}
use Rattle.engine_runs.specs.Restoring.{HasPlanned}
use Rattle.engine_runs.proofs.PlanLaws.{planned_next, planned_pass, puts_few}
use Rattle.engine_runs.proofs.restoring.plan_next.Goals as goal

pub returns-in-Ok-clause-planned : goal.returns-in-Ok-clause-planned
returns-in-Ok-clause-planned g c = λ lives runs others at h.
    planned_next g.N.Node.spec g.N.ScriptNode.planned lives runs g.N.Node.state g.N.Node.first (c.scripts_have_one_answer.ensures.task None) c.args.number others c.args.names.now.items c.put_plan.new.names.items c.args.plans.now.items c.put_plan.new.plans.items c.args.life.now at
    (c.if-is_next.ensures.yes refl ∙ ap (λ (i : ℕ). i + 1) (c.len.ensures ∙ c.args.names.now.ok.0)) c.in-Ok.ensures.ok h

pub returns-clause-planned : goal.returns-clause-planned
returns-clause-planned g c = λ lives runs others at h.
    let other : c.args.number ≡ length c.args.names.now.items + 1 → ⊥ = λ e. c.if-is_next.ensures.no refl (subst (λ (i : ℕ). c.args.number ≡ i + 1) (sym (c.len.ensures ∙ c.args.names.now.ok.0)) e) in
    subst (λ ns. HasPlanned g.N.Node.spec g.N.ScriptNode.planned lives runs (c.args.number ∷ others) ns c.args.plans.now.items) (sym c.in_ok-pass_life.ensures.1)
    (planned_pass g.N.Node.spec g.N.ScriptNode.planned lives runs c.args.number others c.args.names.now.items c.in_ok-pass_life.ensures.0 c.args.plans.now.items c.args.life.now at other h)

pub returns-in-Ok-clause-few : goal.returns-in-Ok-clause-few
returns-in-Ok-clause-few g c = λ few. puts_few g.N.ScriptNode.planned g.N.Node.spec g.N.Node.state g.N.Node.first c.args.number c.args.life.now _ _ _ _ c.in-Ok.ensures.ok few

pub returns-in-Ok-clause-plans : goal.returns-in-Ok-clause-plans
returns-in-Ok-clause-plans g c = λ plans. c.in-Ok.ensures.plans plans
