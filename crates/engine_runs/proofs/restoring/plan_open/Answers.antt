use Rattle.std.proofs.Common.{List, ℕ, drop, length, ap, sym, subst, ◌∙◌}
use Rattle.engine_runs.specs.Restoring.{HasPlanned}
use Rattle.engine_runs.proofs.PlaceLaws.{got_at, none_got}
use Rattle.engine_runs.proofs.PlanLaws.{planned_short}
use Rattle.engine_runs.proofs.restoring.plan_open.Goals as goal

pub returns-in_default-get-clause-planned : goal.returns-in_default-get-clause-planned
returns-in_default-get-clause-planned g c = λ runs e h.
    let Has = λ (l : List ℕ). HasPlanned g.N.Node.spec g.N.ScriptNode.planned c.args.lives.now runs l c.planning.names.items c.planning.plans.items in
    absurd (planned_short g.N.Node.spec g.N.ScriptNode.planned c.args.lives.now runs c.in-Some.number.now c.in-Some.field-0-1.now c.planning.names.items c.planning.plans.items
    (subst Has c.in-Some.ensures.cases.0 (c.planning.invariant.planned runs e h))
    (none_got c.args.lives.now c.len.result (length c.planning.names.items) (c.len.ensures ∙ c.planning.names.ok.0) c.in_default-get.ensures.lookup.3))

pub planning-preserved : goal.planning-preserved
planning-preserved g c = record {
  kept = c.in-Ok.ensures.kept ∙ c.planning.invariant.kept;
  plans = λ plans. c.in-Ok.ensures.plans (c.planning.invariant.plans plans);
  few = λ few. c.in-Ok.ensures.few (c.planning.invariant.few few);
  planned = λ runs e h.
      let lives = c.args.lives.now in
      let i = length c.planning.names.items in
      let at = got_at lives c.len.result i c.in-Some-get.life.now (c.len.ensures ∙ c.planning.names.ok.0) c.in-Some-get.ensures.lookup.3.0 c.in-Some-get.ensures.lookup.1 in
      let before = λ (l : List ℕ). HasPlanned g.N.Node.spec g.N.ScriptNode.planned lives runs l c.planning.names.items c.planning.plans.items in
      let after = λ (l : List ℕ). HasPlanned g.N.Node.spec g.N.ScriptNode.planned lives runs l c.plan_next.new.names.items c.plan_next.new.plans.items in
      subst after (ap (drop c.in-Ok.count) (sym c.in-Some.ensures.cases.0) ∙ sym c.split_at.ensures.back)
      (c.in-Ok.ensures.planned lives runs c.in-Some.field-0-1.now at (subst before c.in-Some.ensures.cases.0 (c.planning.invariant.planned runs e h)));
}
