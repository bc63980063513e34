use Rattle.std.proofs.Common.{List, ℕ, map, sym, ◌∙◌, subst}
use Rattle.std.specs.Prelude.{Option, Ok}
use Rattle.std.proofs.lemmas.Result.{err_from_is_err_and}
use Rattle.store_records.specs.Records.{IsBodyOf, spell_record}
use Rattle.topic_store.specs.Stored.{BodyOrNot}
use Rattle.topic_store.proofs.Rereading.{fault_there, gate_split, known_some, known_there, none_of, none_there, rests_split}
use Rattle.topic_store.proofs.stored.record_at.Goals as goal

pub returns-in_err-body-clause-found : goal.returns-in_err-body-clause-found
returns-in_err-body-clause-found g c = λ tells rs before behind follow rests split at.
    let p = err_from_is_err_and c.from_residual.result c.from_residual.ensures.1 in
    rw (p.1, p.2) (fault_there before behind c.args.gate c.in_err-body.field-0.0
    (c.in_err-body.ensures.found tells (map spell_record before) (map spell_record behind) (rests_split rs before behind _ _ _ split rests)
    (gate_split before c.args.gate at)))

pub returns-in_default-clause-found : goal.returns-in_default-clause-found
returns-in_default-clause-found g c = λ tells rs before behind follow rests split at.
    none_there behind c.args.gate
    (subst (λ (o : Option (List ℕ × ℕ)). BodyOrNot (Ok o) (map spell_record behind) c.args.gate) (none_of _ c.in_default.not-Some)
    (c.in_ok-body.ensures.found tells (map spell_record before) (map spell_record behind) (rests_split rs before behind _ _ _ split rests)
    (gate_split before c.args.gate at)))

pub returns-in-Some-2-clause-found : goal.returns-in-Some-2-clause-found
returns-in-Some-2-clause-found g c = λ tells rs before behind follow rests split at.
    let there = subst (λ (o : Option (List ℕ × ℕ)). BodyOrNot (Ok o) (map spell_record behind) c.args.gate) c.in-Some.is
    (c.in_ok-body.ensures.found tells (map spell_record before) (map spell_record behind) (rests_split rs before behind _ _ _ split rests)
    (gate_split before c.args.gate at)) in
    known_there rs before behind c.args.gate c.in-Some.next c.in-Some.body c.in-Some-2.rec follow split at there
    (λ r is. sym c.in-Some-2.is ∙ c.in_ok-rec.ensures r (subst (IsBodyOf r) (sym c.as_slice.ensures) is))

pub returns-clause-found : goal.returns-clause-found
returns-clause-found g c = λ tells rs before behind follow rests split at.
    let there = subst (λ (o : Option (List ℕ × ℕ)). BodyOrNot (Ok o) (map spell_record behind) c.args.gate) c.in-Some.is
    (c.in_ok-body.ensures.found tells (map spell_record before) (map spell_record behind) (rests_split rs before behind _ _ _ split rests)
    (gate_split before c.args.gate at)) in
    absurd (known_some rs before behind c.args.gate c.in-Some.next c.in-Some.body follow split there
    (λ r is. sym c.in-None.is ∙ c.in_ok-rec.ensures r (subst (IsBodyOf r) (sym c.as_slice.ensures) is)))
