use Rattle.std.proofs.Common.{◌≡◌, ℕ, List, Err, Ok, sym, ap, subst, ◌∙◌, arith}
use Rattle.std.specs.Prelude.{Option}
use Rattle.std.proofs.lemmas.Result.{err_from_is_err_and}
use Rattle.kap_io.specs.Moments.{quiet_then}
use Rattle.store_records.specs.Histories.{held}
use Rattle.topic_store.specs.Behind.{TopicsOrNot}
use Rattle.topic_store.specs.Snapshots.{SnapOrNot}
use Rattle.topic_store.proofs.Quietly.{on_quietly}
use Rattle.topic_store.proofs.Rereading.{none_of}
use Rattle.engine_runs.specs.declared.fault.RunFault.{RunFault}
use Rattle.engine_store.specs.Faults.{IsOfOpening}
use Rattle.engine_store.proofs.CauseLaws.{cause_later, cause_none, cause_other, cause_store, no_place_by, opening_of, run_no_disk, run_of_opening, why_restored}
use Rattle.engine_store.proofs.OpenLaws.{begun_new, firsts, restored}
use Rattle.engine_store.proofs.SnapLaws.{numbers_there}
use Rattle.engine_store.proofs.WhyLaws.{fits_of, none_there, others_of}
use Rattle.engine_store.proofs.opening.begin_run.Goals as goal

-- ---- no snapshot is read

pub returns-in_err-gate-clause-why : goal.returns-in_err-gate-clause-why
returns-in_err-gate-clause-why g c = λ tells rs on all part offset e.
    let p = err_from_is_err_and c.from_residual.result c.from_residual.ensures.1 in
    absurd (no_place_by (λ f. SnapOrNot rs (Err f)) (λ there at none. none) c.in_err-gate.field-0.0 p.0 p.2 (c.in_err-gate.ensures.snap tells rs on) part offset (sym p.1 ∙ e))

pub returns-in_err-gate-clause-cause : goal.returns-in_err-gate-clause-cause
returns-in_err-gate-clause-cause g c =
    let p = err_from_is_err_and c.from_residual.result c.from_residual.ensures.1 in
    rw p.1 (cause_store _ _ c.in_err-gate.field-0.0 p.0 p.2 c.in_err-gate.ensures.cause)

pub returns-in_err-gate-clause-faults : goal.returns-in_err-gate-clause-faults
returns-in_err-gate-clause-faults g c =
    let p = err_from_is_err_and c.from_residual.result c.from_residual.ensures.1 in
    rw p.1 (opening_of c.in_err-gate.field-0.0 p.0 p.2)

-- ---- there is none

pub returns-in_default-clause-fits : goal.returns-in_default-clause-fits
returns-in_default-clause-fits g c = λ tells rs on.
    none_there g.N.Node g.N.ScriptNode.planned rs
    (subst (λ (o : Option (ℕ × List ℕ × List ℕ)). SnapOrNot rs (Ok o)) (none_of _ c.in_default.not-Some) (c.in_ok-gate.ensures.snap tells rs on))

pub returns-in_default-clause-begun : goal.returns-in_default-clause-begun
returns-in_default-clause-begun g c = λ tells rs tasks on are consistent.
    begun_new g.N.Node g.N.ScriptNode.planned rs tasks _ (c.new.ensures.runs (held rs).lives tasks (firsts rs))

-- ---- its topics aren't

pub returns-in_err-topics-clause-why : goal.returns-in_err-topics-clause-why
returns-in_err-topics-clause-why g c = λ tells rs on all part offset e.
    let p = err_from_is_err_and c.from_residual-in_err-topics.result c.from_residual-in_err-topics.ensures.1 in
    let there = on_quietly g.D.Disk.seen g.D.Disk.moment g.D.Disk.may_leave g.D.Disk.left_since _ _ rs c.args.store.now (c.snap.ensures.quiet tells) on in
    absurd (no_place_by (λ f. TopicsOrNot (held rs).transitions c.unwrap_or-points.result.1 (Err f)) (λ there at none. none) c.in_err-topics.field-0.0 p.0 p.2 (c.in_err-topics.ensures.topics tells rs there) part offset (sym p.1 ∙ e))

pub returns-in_err-topics-clause-quiet : goal.returns-in_err-topics-clause-quiet
returns-in_err-topics-clause-quiet g c = λ tells.
    quiet_then g.D.Disk.seen g.D.Disk.moment g.D.Disk.may_leave g.D.Disk.left_since _ _ _ (c.snap.ensures.quiet tells) (c.topics_behind.ensures.quiet tells)

pub returns-in_err-topics-clause-cause : goal.returns-in_err-topics-clause-cause
returns-in_err-topics-clause-cause g c =
    let p = err_from_is_err_and c.from_residual-in_err-topics.result c.from_residual-in_err-topics.ensures.1 in
    rw p.1 (cause_later _ _ _ _ c.snap.ensures.cause.later (cause_store _ _ c.in_err-topics.field-0.0 p.0 p.2 c.in_err-topics.ensures.cause))

pub returns-in_err-topics-clause-faults : goal.returns-in_err-topics-clause-faults
returns-in_err-topics-clause-faults g c =
    let p = err_from_is_err_and c.from_residual-in_err-topics.result c.from_residual-in_err-topics.ensures.1 in
    rw p.1 (opening_of c.in_err-topics.field-0.0 p.0 p.2)

-- ---- the lives are restored

pub returns-in-Ok-clause-fits : goal.returns-in-Ok-clause-fits
returns-in-Ok-clause-fits g c = λ tells rs on.
    let found = subst (λ (o : Option (ℕ × List ℕ × List ℕ)). SnapOrNot rs (Ok o)) c.in-Some.is (c.in_ok-gate.ensures.snap tells rs on) in
    fits_of g.N.Node g.N.ScriptNode.planned rs found.snap c.lives.result.now c.as_slice.result.now c.as_slice-2.result.now
    (c.lives.ensures ∙ on.kept.keeps.lives) (c.as_slice.ensures ∙ found.lives) (c.as_slice-2.ensures ∙ found.states) c.in-Ok.ensures.fits

pub returns-in-Ok-clause-begun : goal.returns-in-Ok-clause-begun
returns-in-Ok-clause-begun g c = λ tells rs tasks on are consistent.
    let found = subst (λ (o : Option (ℕ × List ℕ × List ℕ)). SnapOrNot rs (Ok o)) c.in-Some.is (c.in_ok-gate.ensures.snap tells rs on) in
    let there = on_quietly g.D.Disk.seen g.D.Disk.moment g.D.Disk.may_leave g.D.Disk.left_since _ _ rs c.args.store.now (c.snap.ensures.quiet tells) on in
    let numbers = numbers_there rs found.snap c.args.store.now.kept.snap c.last_snap.result c.unwrap_or-points.result on.kept.keeps.snap c.last_snap.ensures c.unwrap_or-points.ensures in
    restored g.N.Node g.N.ScriptNode.planned rs tasks (g.met.N.Node g.world.𝓛 g.world.𝓜 g.world.𝓡 (λ s x. x, λ x. x, λ x. x, λ x. x)).stamped c.transition_laws.ensures.stood
    found.snap on.stored.follow consistent c.lives.result.now c.as_slice.result.now c.as_slice-2.result.now _ _ c.in_ok-topics.topics _
    (c.lives.ensures ∙ on.kept.keeps.lives) are (c.as_slice.ensures ∙ found.lives) (c.as_slice-2.ensures ∙ found.states) numbers.0 numbers.1
    (c.in_ok-topics.ensures.topics tells rs there) c.in-Ok.ensures.runs

pub returns-in-Ok-clause-quiet : goal.returns-in-Ok-clause-quiet
returns-in-Ok-clause-quiet g c = λ tells.
    quiet_then g.D.Disk.seen g.D.Disk.moment g.D.Disk.may_leave g.D.Disk.left_since _ _ _ (c.snap.ensures.quiet tells) (c.topics_behind.ensures.quiet tells)

pub returns-in-Ok-clause-cause : goal.returns-in-Ok-clause-cause
returns-in-Ok-clause-cause g c = cause_none _ _ _ (omega (arith, c.snap.ensures.cause.later, c.topics_behind.ensures.cause.later))

-- ---- they aren't

pub returns-clause-why : goal.returns-clause-why
returns-clause-why g c = λ tells rs on all part offset e.
    let found = subst (λ (o : Option (ℕ × List ℕ × List ℕ)). SnapOrNot rs (Ok o)) c.in-Some.is (c.in_ok-gate.ensures.snap tells rs on) in
    let same : c.lives.result.now ≡ (held rs).lives = c.lives.ensures ∙ on.kept.keeps.lives in
    let why = why_restored g.N.Node g.N.ScriptNode.planned (g.P.Patterns.refusals c.args.pats.now) (g.P.Patterns.refusals c.restore-restored.new.pats) (g.P.Patterns.refused c.restore-restored.new.pats) rs
    c.part.result c.in-Some.gate c.in-Err.fault c.run_fault.result c.lives.result.now c.run_fault.ensures all same
    (λ states. others_of g.N.Node g.N.ScriptNode.planned rs found.snap c.lives.result.now c.as_slice.result.now c.as_slice-2.result.now c.in-Some.gate
    same (c.as_slice.ensures ∙ found.lives) (c.as_slice-2.ensures ∙ found.states) found.gate all (c.in-Err.ensures.states (ap (λ (f : RunFault). Err f) states)))
    c.in-Err.ensures.why part offset e in
    (why.0 ∙ c.part.ensures, why.1)

pub returns-clause-quiet : goal.returns-clause-quiet
returns-clause-quiet g c = λ tells.
    quiet_then g.D.Disk.seen g.D.Disk.moment g.D.Disk.may_leave g.D.Disk.left_since _ _ _ (c.snap.ensures.quiet tells) (c.topics_behind.ensures.quiet tells)

pub returns-clause-cause : goal.returns-clause-cause
returns-clause-cause g c =
    cause_other _ _ c.run_fault.result (omega (arith, c.snap.ensures.cause.later, c.topics_behind.ensures.cause.later))
    (λ disk. run_no_disk c.part.result c.in-Some.gate c.in-Err.fault (sym c.run_fault.ensures ∙ disk))

pub returns-clause-faults : goal.returns-clause-faults
returns-clause-faults g c = subst IsOfOpening (sym c.run_fault.ensures) (run_of_opening c.part.result c.in-Some.gate c.in-Err.fault)
