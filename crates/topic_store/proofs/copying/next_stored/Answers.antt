use Rattle.std.proofs.Common.{List, ℕ, map, subst, sym, ◌∙◌}
use Rattle.std.specs.Prelude.{Option, Ok}
use Rattle.std.proofs.lemmas.Result.{err_from_is_err_and}
use Rattle.store_records.specs.Records.{IsBodyOf, spell_record}
use Rattle.topic_store.specs.Stored.{BodyOrNot}
use Rattle.topic_store.proofs.Copies.{next_there, none_is_none, short_body, stored_fault, stored_there}
use Rattle.topic_store.proofs.Rereading.{gate_split, none_of, none_there, rests_split}
use Rattle.topic_store.proofs.copying.next_stored.Goals as goal

pub returns-in_err-body-clause-found : goal.returns-in_err-body-clause-found
returns-in_err-body-clause-found g c = λ tells rs before behind stored rests split at.
    let p = err_from_is_err_and c.from_residual.result c.from_residual.ensures.1 in
    rw (p.1, p.2) (stored_fault before behind c.args.gate c.in_err-body.field-0.0
    (c.in_err-body.ensures.found tells (map spell_record before) (map spell_record behind) (rests_split rs before behind _ _ _ split rests)
    (gate_split before c.args.gate at)))

pub returns-in_default-clause-found : goal.returns-in_default-clause-found
returns-in_default-clause-found g c = λ tells rs before behind stored rests split at.
    none_there behind c.args.gate
    (subst (λ (o : Option (List ℕ × ℕ)). BodyOrNot (Ok o) (map spell_record behind) c.args.gate) (none_of _ c.in_default.not-Some)
    (c.in_ok-body.ensures.found tells (map spell_record before) (map spell_record behind) (rests_split rs before behind _ _ _ split rests)
    (gate_split before c.args.gate at)))

pub returns-in-Some-2-clause-found : goal.returns-in-Some-2-clause-found
returns-in-Some-2-clause-found g c = λ tells rs before behind stored rests split at.
    let there = subst (λ (o : Option (List ℕ × ℕ)). BodyOrNot (Ok o) (map spell_record behind) c.args.gate) c.in-Some.is
    (c.in_ok-body.ensures.found tells (map spell_record before) (map spell_record behind) (rests_split rs before behind _ _ _ split rests)
    (gate_split before c.args.gate at)) in
    let has = next_there rs before behind c.args.gate c.in-Some.next c.in-Some.body stored split at there in
    let found = c.in_ok-rec.ensures.found has.r (subst (IsBodyOf has.r) (sym c.as_slice.ensures) has.body_of) (short_body c.as_slice.result.now c.in-Some.body c.as_slice.ensures has.short) has.valid in
    stored_there before behind c.in-Some.next c.in-Some.body c.in-Some-2.rec has (sym c.in-Some-2.is ∙ found)

pub returns-in-None-clause-found : goal.returns-in-None-clause-found
returns-in-None-clause-found g c = λ tells rs before behind stored rests split at.
    let there = subst (λ (o : Option (List ℕ × ℕ)). BodyOrNot (Ok o) (map spell_record behind) c.args.gate) c.in-Some.is
    (c.in_ok-body.ensures.found tells (map spell_record before) (map spell_record behind) (rests_split rs before behind _ _ _ split rests)
    (gate_split before c.args.gate at)) in
    let has = next_there rs before behind c.args.gate c.in-Some.next c.in-Some.body stored split at there in
    let found = c.in_ok-rec.ensures.found has.r (subst (IsBodyOf has.r) (sym c.as_slice.ensures) has.body_of) (short_body c.as_slice.result.now c.in-Some.body c.as_slice.ensures has.short) has.valid in
    absurd (none_is_none has.r (sym c.in-None.is ∙ found))
