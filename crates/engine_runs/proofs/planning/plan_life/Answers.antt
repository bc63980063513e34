use Rattle.std.proofs.Common.{◌≡◌, List, ℕ, ap, subst, ◌∙◌}
use Rattle.std.specs.Prelude.{None}
use Rattle.effect_text.specs.declared.names.TaskNames.{TaskNames}
use Rattle.tick_compile.specs.Scripts.{Accepts}
use Rattle.engine_runs.proofs.ScriptLaws.{plan_number}
use Rattle.engine_runs.proofs.planning.plan_life.Goals as goal

abbrev named-by : List ℕ → List (List ℕ) → TaskNames
named-by i ns = record { id = i; nodes = ns }

named : (i j : List ℕ) (ns ms : List (List ℕ)) → i ≡ j → ns ≡ ms → named-by i ns ≡ named-by j ms
named i j ns ms e f = ap (λ (x : List ℕ). named-by x ns) e ∙ ap (named-by j) f

pub returns-clause-planned : goal.returns-clause-planned
returns-clause-planned g c = record {
  task = c.in-Ok.task;
  accepted = subst (λ (text : List ℕ). Accepts None text c.in-Ok.task) c.bytes.ensures.bytes c.in-Ok.ensures.task;
  names_are = named c.in_ok-id.id c.args.life.now.task c.in_ok-plan.field-0.names _ c.in_ok-id.ensures.copy c.in_ok-plan.ensures.names;
  number_is = plan_number g.N.ScriptNode.planned g.N.Node.ports g.N.Node.life g.N.Node.number g.met.N.ScriptNode.sits g.N.Node.spec c.in_ok-plan.field-0.plan c.args.number c.args.life.now.task c.in-Ok.task.graph c.in_ok-plan.ensures.plan c.in_ok-plan.ensures.nodes;
  nodes = c.in_ok-plan.ensures.nodes;
  begins = c.in_ok-plan.ensures.begin;
  few = c.in_ok-plan.ensures.few;
}
