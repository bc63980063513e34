use Rattle.std.proofs.Common.{true≢false, sym, ◌∙◌, ap}
use Rattle.topic_store.specs.Stores.{current}
use Rattle.topic_store.proofs.rewriting.read_run.Goals as goal

pub returns-then-not-is_same-clause-found : goal.returns-then-not-is_same-clause-found
returns-then-not-is_same-clause-found g c = λ tells run head part.
    let found = c.in-Ok.ensures.run tells run head in
    absurd (true≢false (sym (c.is_same.ensures.no (part ∙ sym (c.current.ensures ∙ ap current found))) ∙ c.if-not-is_same.true))

pub returns-clause-found : goal.returns-clause-found
returns-clause-found g c = λ tells run head part. c.in-Ok.ensures.run tells run head
