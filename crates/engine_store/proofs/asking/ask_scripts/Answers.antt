use Rattle.std.proofs.Common.{◌≤◌, ℕ, length, subst, ◌∙◌}
use Rattle.kap_base.specs.declared.limits.TheConstants.{SCRIPT_LIMIT}
use Rattle.store_records.specs.Orders.{IsValid}
use Rattle.store_records.specs.declared.task.Life.{Life}
use Rattle.engine_store.specs.Asking.{IsWhyFirst}
use Rattle.engine_store.proofs.AskLaws.{all_before, before_least, before_next, first_life, first_task}
use Rattle.engine_store.proofs.PassLaws.{each_to}
use Rattle.engine_store.proofs.asking.ask_scripts.Goals as goal

pub returns-in-Err-clause-why : goal.returns-in-Err-clause-why
returns-in-Err-clause-why g c =
    let b = before_least c.args.tasks.now c.args.lives.now c.asking.from c.in-Some.place c.least_from.result c.asking.invariant.all c.least_from.ensures.items c.in-Some.ensures.other c.in-Some.ensures.items in
    subst (λ (n : ℕ). IsWhyFirst n (g.P.Patterns.refusals c.ask_at.new.pats) (g.P.Patterns.refused c.ask_at.new.pats) c.args.tasks.now c.args.lives.now c.in-Err.fault) c.asking.invariant.kept
    (first_task (g.P.Patterns.refusals c.asking.pats) (g.P.Patterns.refusals c.ask_at.new.pats) (g.P.Patterns.refused c.ask_at.new.pats) c.args.tasks.now c.args.lives.now c.in-Some.place c.in-Err.fault b c.in-Err.ensures.why)

pub ask_at-requires-in-Some : goal.ask_at-requires-in-Some
ask_at-requires-in-Some g c = record {
  short = each_to (λ (l : Life). IsValid l.task l.script) (λ (l : Life). length l.script ≤ SCRIPT_LIMIT) c.args.lives.now (λ l (v : IsValid l.task l.script). v.short) c.requires.lives;
}

pub returns-in-Err-ask_at-clause-why : goal.returns-in-Err-ask_at-clause-why
returns-in-Err-ask_at-clause-why g c =
    let b = before_least c.args.tasks.now c.args.lives.now c.asking.from c.in-Some.place c.least_from.result c.asking.invariant.all c.least_from.ensures.items c.in-Some.ensures.other c.in-Some.ensures.items in
    subst (λ (n : ℕ). IsWhyFirst n (g.P.Patterns.refusals c.ask_at-in-Some.new.pats) (g.P.Patterns.refused c.ask_at-in-Some.new.pats) c.args.tasks.now c.args.lives.now c.in-Err-ask_at.fault) (c.in_default-ask_at.ensures.kept ∙ c.asking.invariant.kept)
    (first_life (g.P.Patterns.refusals c.ask_at.new.pats) (g.P.Patterns.refusals c.ask_at-in-Some.new.pats) (g.P.Patterns.refused c.ask_at-in-Some.new.pats) c.args.tasks.now c.args.lives.now c.in-Some.place c.in-Err-ask_at.fault b c.in-Err-ask_at.ensures.why)

pub asking-preserved : goal.asking-preserved
asking-preserved g c =
    let b = before_least c.args.tasks.now c.args.lives.now c.asking.from c.in-Some.place c.least_from.result c.asking.invariant.all c.least_from.ensures.items c.in-Some.ensures.other c.in-Some.ensures.items in
    record {
      all = before_next c.args.tasks.now c.args.lives.now c.in-Some.place c.in-Some-checked_add.next c.in-Some-checked_add.ensures.1 b c.in_default-ask_at.ensures.ok c.in_default-ask_at-2.ensures.ok;
      kept = c.in_default-ask_at-2.ensures.kept ∙ c.in_default-ask_at.ensures.kept ∙ c.asking.invariant.kept;
    }

pub returns-clause-ok : goal.returns-clause-ok
returns-clause-ok g c = all_before c.args.tasks.now c.args.lives.now c.asking.from c.least_from.result c.asking.invariant.all c.least_from.ensures.items c.in_default.ensures.other c.in_default.ensures.items
