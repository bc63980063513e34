use Rattle.std.proofs.Common.{ℕ, ◌∷◌, sym, ◌∙◌, subst}
use Rattle.std.specs.Prelude.{Option, Ok}
use Rattle.std.proofs.lemmas.Result.{err_from_is_err_and}
use Rattle.store_records.specs.declared.rec.Rec.{Rec}
use Rattle.store_records.specs.declared.rec.Rec.TheVariants as kinds
use Rattle.topic_store.specs.Stored.{RecordOrNot}
use Rattle.topic_store.proofs.Rereading.{no_snap, none_of, no_states, states_fault, states_there}
use Rattle.topic_store.proofs.stored.states_at.Goals as goal

pub returns-in_err-rec-clause-found : goal.returns-in_err-rec-clause-found
returns-in_err-rec-clause-found g c = λ tells rs snap follow rests at.
    let p = err_from_is_err_and c.from_residual.result c.from_residual.ensures.1 in
    let behind = kinds.Snap snap.points snap.trans snap.states ∷ snap.behind in
    rw (p.1, p.2) (states_fault snap.before behind snap.states c.in_err-rec.field-0.0
    (c.in_err-rec.ensures.found tells rs snap.before behind follow rests snap.split at))

pub returns-in_default-clause-found : goal.returns-in_default-clause-found
returns-in_default-clause-found g c = λ tells rs snap follow rests at.
    let behind = kinds.Snap snap.points snap.trans snap.states ∷ snap.behind in
    absurd (no_snap rs snap (subst (λ (o : Option (Rec × ℕ)). RecordOrNot (Ok o) snap.before behind) (none_of _ c.in_default.not-Some)
    (c.in_ok-rec.ensures.found tells rs snap.before behind follow rests snap.split at)))

pub returns-in-Some-states_of-clause-found : goal.returns-in-Some-states_of-clause-found
returns-in-Some-states_of-clause-found g c = λ tells rs snap follow rests at.
    let behind = kinds.Snap snap.points snap.trans snap.states ∷ snap.behind in
    let there = subst (λ (o : Option (Rec × ℕ)). RecordOrNot (Ok o) snap.before behind) c.in-Some.is
    (c.in_ok-rec.ensures.found tells rs snap.before behind follow rests snap.split at) in
    states_there rs snap _ _ there c.in-Some-states_of.states (sym c.in-Some-states_of.is ∙ c.states_of.ensures)

pub returns-in-None-clause-found : goal.returns-in-None-clause-found
returns-in-None-clause-found g c = λ tells rs snap follow rests at.
    let behind = kinds.Snap snap.points snap.trans snap.states ∷ snap.behind in
    let there = subst (λ (o : Option (Rec × ℕ)). RecordOrNot (Ok o) snap.before behind) c.in-Some.is
    (c.in_ok-rec.ensures.found tells rs snap.before behind follow rests snap.split at) in
    absurd (no_states rs snap _ _ there (sym c.in-None.is ∙ c.states_of.ensures))
