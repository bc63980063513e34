use Rattle.std.proofs.Common.{sym, ◌∙◌, ap}
use Rattle.std.proofs.lemmas.Result.{err_from_is_err_and}
use Rattle.store_records.specs.declared.task.Snapshot.{Snapshot}
use Rattle.topic_store.proofs.Latest.{latest, none_kept, snap_fault, snap_there}
use Rattle.topic_store.proofs.Rereading.{none_of}
use Rattle.topic_store.proofs.store.Store.snap.Goals as goal

pub returns-in_default-clause-snap : goal.returns-in_default-clause-snap
returns-in_default-clause-snap g c = rw (← c.self.view_is) (λ tells rs on. none_kept rs (sym on.kept.keeps.snap ∙ none_of _ c.in_default.not-Some))

pub returns-in_err-states-clause-snap : goal.returns-in_err-states-clause-snap
returns-in_err-states-clause-snap g c =
    rw (← c.self.view_is) (
    λ tells rs on.
    let p = err_from_is_err_and c.from_residual.result c.from_residual.ensures.1 in
    let is = latest rs c.in-Some.snap (sym on.kept.keeps.snap ∙ c.in-Some.is) in
    rw (p.1, p.2) (snap_fault rs is.snap.states c.in_err-states.field-0.0
    (c.in_err-states.ensures.found tells rs is.snap on.stored.follow on.log (ap (λ (t : Snapshot). t.at) is.is)))
    )

pub returns-clause-snap : goal.returns-clause-snap
returns-clause-snap g c =
    rw (← c.self.view_is) (
    λ tells rs on.
    let is = latest rs c.in-Some.snap (sym on.kept.keeps.snap ∙ c.in-Some.is) in
    let states = c.in_ok-states.ensures.found tells rs is.snap on.stored.follow on.log (ap (λ (t : Snapshot). t.at) is.is) in
    snap_there rs c.in-Some.snap is c.from_items.result c.in_ok-states.states (c.from_items.ensures ∙ c.in_ok-lives.ensures.items ∙ c.as_slice.ensures) states
    )
