use Rattle.std.proofs.Common.{sym, subst}
use Rattle.std.specs.declared.result.Result.TheVariants.{Err}
use Rattle.topic_store.specs.Stored.{BodyOrNot}
use Rattle.topic_store.specs.declared.fault.StoreFault.{StoreFault}
use Rattle.topic_store.proofs.Rereading.{body_found, body_refused}
use Rattle.topic_store.proofs.stored.body_at.Goals as goal

pub returns-in-Ok-clause-found : goal.returns-in-Ok-clause-found
returns-in-Ok-clause-found g c = λ tells before after rests at. body_found after c.args.gate _ (c.in-Ok.ensures.found tells before after rests at)

pub returns-in-Err-clause-found : goal.returns-in-Err-clause-found
returns-in-Err-clause-found g c = λ tells before after rests at.
    subst (λ (f : StoreFault). BodyOrNot (Err f) after c.args.gate) (sym c.fault_in.ensures)
    (body_refused _ after c.args.gate _ (c.in-Err.ensures.found tells before after rests at))
