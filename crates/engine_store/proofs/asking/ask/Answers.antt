use Rattle.std.proofs.Common.{subst, sym}
use Rattle.engine_runs.proofs.FaultLaws.{why_at}
use Rattle.engine_store.specs.Asking.{IsWhyAt}
use Rattle.engine_store.proofs.AskLaws.{life_at, why_script}
use Rattle.engine_store.proofs.asking.ask.Goals as goal

pub returns-in-Err-clause-why : goal.returns-in-Err-clause-why
returns-in-Err-clause-why g c =
    let before = g.P.Patterns.refusals c.args.pats.now in
    let after = g.P.Patterns.refusals c.compile.new.pats in
    let refused = g.P.Patterns.refused c.compile.new.pats in
    subst (IsWhyAt before after refused c.args.place c.args.text.now) (sym c.fault_at.ensures)
    (why_script before after refused c.args.place c.args.text.now _ (why_at before after refused (life_at c.args.place c.args.text.now) c.in-Err.fault c.in-Err.ensures.fault c.in-Err.ensures.rose))
