use Rattle.std.proofs.Common.{List, Err, sym, ap, subst, ◌∙◌, arith}
use Rattle.std.proofs.lemmas.Result.{err_from_is_err_and}
use Rattle.kap_io.specs.Moments.{quiet_then}
use Rattle.store_records.specs.declared.rec.Rec.{Rec}
use Rattle.topic_store.specs.Stores.{IsOn, StoreState}
use Rattle.topic_store.specs.declared.fault.StoreFault.{StoreFault}
use Rattle.topic_store.proofs.Found.{seen_stands}
use Rattle.topic_store.proofs.Quietly.{on_quietly}
use Rattle.engine_store.specs.Faults.{IsOfOpening, no_lives, no_store}
use Rattle.engine_store.specs.declared.fault.EngineFault.{EngineFault}
use Rattle.engine_store.specs.declared.fault.EngineFault.TheVariants.{NotStore}
use Rattle.engine_store.proofs.CauseLaws.{cause_later, cause_none, cause_of, cause_same, cause_store, no_place, opening_of, same_fault}
use Rattle.kap_engine.proofs.MakeLaws.{found_fault, good_moments, made_behind, may_store, named_by, none_missing, on_seen, opened_fault, quiet_good, quiet_still}
use Rattle.engine_store.proofs.WhyLaws.{good_rose}
use Rattle.kap_engine.proofs.engine.Engine.make_engine.Goals as goal

-- ---- there is no store

pub returns-in_err-store-clause-any_moment : goal.returns-in_err-store-clause-any_moment
returns-in_err-store-clause-any_moment g c = λ tells rs stands good.
    quiet_good g.N.Node g.N.ScriptNode.planned rs g.D.Disk.seen g.D.Disk.moment g.D.Disk.may_leave g.D.Disk.left_since _ _ (c.open_store.ensures.quiet tells)

pub returns-in_err-store-clause-refused : goal.returns-in_err-store-clause-refused
returns-in_err-store-clause-refused g c = λ tells part offset e.
    let p = err_from_is_err_and c.from_residual.result c.from_residual.ensures.1 in
    no_store (found_fault (λ (one : List Rec) (store : StoreState). IsOn one (g.D.Disk.seen c.args.disk.now) (g.D.Disk.may_leave c.open_store.new.disk) store) (g.D.Disk.seen c.args.disk.now) c.in_err-store.field-0.0 p.0 part offset p.2 (sym p.1 ∙ e) (c.in_err-store.ensures.found tells))

pub returns-in_err-store-clause-rose : goal.returns-in_err-store-clause-rose
returns-in_err-store-clause-rose g c = λ tells rs stands good part offset e.
    let p = err_from_is_err_and c.from_residual.result c.from_residual.ensures.1 in
    absurd (opened_fault (λ (store : StoreState). IsOn rs (g.D.Disk.seen c.args.disk.now) (g.D.Disk.may_leave c.open_store.new.disk) store) c.in_err-store.field-0.0 p.0 part offset p.2 (sym p.1 ∙ e) (c.in_err-store.ensures.opened tells rs stands))

pub returns-in_err-store-clause-cause : goal.returns-in_err-store-clause-cause
returns-in_err-store-clause-cause g c =
    let p = err_from_is_err_and c.from_residual.result c.from_residual.ensures.1 in
    rw p.1 (cause_store _ _ c.in_err-store.field-0.0 p.0 p.2 c.in_err-store.ensures.cause)

pub returns-in_err-store-clause-faults : goal.returns-in_err-store-clause-faults
returns-in_err-store-clause-faults g c =
    let p = err_from_is_err_and c.from_residual.result c.from_residual.ensures.1 in
    rw p.1 (opening_of c.in_err-store.field-0.0 p.0 p.2)

-- ---- its lives don't run

pub returns-in_err-run-clause-any_moment : goal.returns-in_err-run-clause-any_moment
returns-in_err-run-clause-any_moment g c = λ tells rs stands good.
    quiet_good g.N.Node g.N.ScriptNode.planned rs g.D.Disk.seen g.D.Disk.moment g.D.Disk.may_leave g.D.Disk.left_since _ _
    (quiet_then g.D.Disk.seen g.D.Disk.moment g.D.Disk.may_leave g.D.Disk.left_since _ _ _ (c.open_store.ensures.quiet tells) (c.run_store.ensures.quiet tells))

pub returns-in_err-run-clause-again : goal.returns-in_err-run-clause-again
returns-in_err-run-clause-again g c = λ tells rs stands full.
    quiet_then g.D.Disk.seen g.D.Disk.moment g.D.Disk.may_leave g.D.Disk.left_since _ _ _ (c.open_store.ensures.quiet tells) (c.run_store.ensures.quiet tells)

pub returns-in_err-run-clause-still : goal.returns-in_err-run-clause-still
returns-in_err-run-clause-still g c = λ tells part offset e.
    quiet_then g.D.Disk.seen g.D.Disk.moment g.D.Disk.may_leave g.D.Disk.left_since _ _ _ (c.open_store.ensures.quiet tells) (c.run_store.ensures.quiet tells)

pub returns-in_err-run-clause-refused : goal.returns-in_err-run-clause-refused
returns-in_err-run-clause-refused g c = λ tells part offset e.
    let p = err_from_is_err_and c.from_residual-in_err-run.result c.from_residual-in_err-run.ensures.1 in
    let seen = g.D.Disk.seen c.args.disk.now in
    let left = g.D.Disk.may_leave c.open_store.new.disk in
    let found = c.in_ok-store.ensures.found tells in
    let on = on_seen seen (g.D.Disk.seen c.open_store.new.disk) left found.0 c.in_ok-store.store (c.open_store.ensures.quiet tells).reads found.1 in
    let why = c.in_err-run.ensures.why tells found.0 on part offset (ap (λ (f : EngineFault). Err f) (sym p.2 ∙ same_fault _ p.0 (NotStore part offset) p.1 e)) in
    no_lives found.0 (seen_stands seen left found.0 c.in_ok-store.store found.1) (named_by seen left found.0 c.in_ok-store.store part found.1 why.0) why.1

pub returns-in_err-run-clause-rose : goal.returns-in_err-run-clause-rose
returns-in_err-run-clause-rose g c = λ tells rs stands good part offset e.
    let p = err_from_is_err_and c.from_residual-in_err-run.result c.from_residual-in_err-run.ensures.1 in
    let on = on_seen (g.D.Disk.seen c.args.disk.now) (g.D.Disk.seen c.open_store.new.disk) (g.D.Disk.may_leave c.open_store.new.disk) rs c.in_ok-store.store
    (c.open_store.ensures.quiet tells).reads (c.in_ok-store.ensures.opened tells rs stands) in
    let why = c.in_err-run.ensures.why tells rs on part offset (ap (λ (f : EngineFault). Err f) (sym p.2 ∙ same_fault _ p.0 (NotStore part offset) p.1 e)) in
    good_rose g.N.Node g.N.ScriptNode.planned (g.P.Patterns.refusals c.args.pats.now) (g.P.Patterns.refusals c.run_store.new.pats) (g.P.Patterns.refused c.run_store.new.pats) rs offset c.scripts_have_one_answer.ensures.apart good why.1

pub returns-in_err-run-clause-cause : goal.returns-in_err-run-clause-cause
returns-in_err-run-clause-cause g c =
    let p = err_from_is_err_and c.from_residual-in_err-run.result c.from_residual-in_err-run.ensures.1 in
    cause_same _ _ _ c.in_err-run.field-0.0 p.0 p.1 p.2 (cause_later _ _ _ _ c.open_store.ensures.cause.later c.in_err-run.ensures.cause)

pub returns-in_err-run-clause-faults : goal.returns-in_err-run-clause-faults
returns-in_err-run-clause-faults g c =
    let p = err_from_is_err_and c.from_residual-in_err-run.result c.from_residual-in_err-run.ensures.1 in
    rw p.1 (subst IsOfOpening (sym p.2) c.in_err-run.ensures.faults)

-- ---- the missing transitions aren't all stored

pub returns-in_err-add_transitions-clause-any_moment : goal.returns-in_err-add_transitions-clause-any_moment
returns-in_err-add_transitions-clause-any_moment g c = λ tells rs stands good.
    let on = on_seen (g.D.Disk.seen c.args.disk.now) (g.D.Disk.seen c.open_store.new.disk) (g.D.Disk.may_leave c.open_store.new.disk) rs c.in_ok-store.store
    (c.open_store.ensures.quiet tells).reads (c.in_ok-store.ensures.opened tells rs stands) in
    let behind = on_quietly g.D.Disk.seen g.D.Disk.moment g.D.Disk.may_leave g.D.Disk.left_since _ _ rs c.in_ok-store.store (c.run_store.ensures.quiet tells) on in
    let h = c.in_ok-run.ensures.runs tells rs good.tasks on good.are good.consistent in
    let next = may_store g.N.Node g.N.ScriptNode.planned rs good _ _ h c.transition_laws.ensures.again _ _ c.in_ok-store.store behind c.in_ok-run.ensures.few in
    good_moments g.N.Node g.N.ScriptNode.planned rs good _ _ h g.D.Disk.seen g.D.Disk.moment g.D.Disk.may_leave g.D.Disk.left_since _ _ _
    (quiet_then g.D.Disk.seen g.D.Disk.moment g.D.Disk.may_leave g.D.Disk.left_since _ _ _ (c.open_store.ensures.quiet tells) (c.run_store.ensures.quiet tells))
    (c.add_transitions.ensures.any_moment tells rs behind next)

pub returns-in_err-add_transitions-clause-again : goal.returns-in_err-add_transitions-clause-again
returns-in_err-add_transitions-clause-again g c = λ tells rs stands full.
    let on = on_seen (g.D.Disk.seen c.args.disk.now) (g.D.Disk.seen c.open_store.new.disk) (g.D.Disk.may_leave c.open_store.new.disk) rs c.in_ok-store.store
    (c.open_store.ensures.quiet tells).reads (c.in_ok-store.ensures.opened tells rs stands) in
    let h = c.in_ok-run.ensures.runs tells rs full.good.tasks on full.good.are full.good.consistent in
    let none = none_missing g.N.Node g.N.ScriptNode.planned rs full _ _ h in
    quiet_still g.D.Disk.seen g.D.Disk.moment g.D.Disk.may_leave g.D.Disk.left_since _ _ _
    (quiet_then g.D.Disk.seen g.D.Disk.moment g.D.Disk.may_leave g.D.Disk.left_since _ _ _ (c.open_store.ensures.quiet tells) (c.run_store.ensures.quiet tells))
    (c.add_transitions.ensures.none none)

pub returns-in_err-add_transitions-clause-still : goal.returns-in_err-add_transitions-clause-still
returns-in_err-add_transitions-clause-still g c = λ tells part offset e.
    let p = err_from_is_err_and c.from_residual-in_err-add_transitions.result c.from_residual-in_err-add_transitions.ensures.1 in
    absurd (no_place c.in_err-add_transitions.field-0.0 p.0 p.2 (λ there at is. c.in_err-add_transitions.ensures.stored there at (ap (λ (f : StoreFault). Err f) is)) part offset (sym p.1 ∙ e))

pub returns-in_err-add_transitions-clause-refused : goal.returns-in_err-add_transitions-clause-refused
returns-in_err-add_transitions-clause-refused g c = λ tells part offset e.
    let p = err_from_is_err_and c.from_residual-in_err-add_transitions.result c.from_residual-in_err-add_transitions.ensures.1 in
    absurd (no_place c.in_err-add_transitions.field-0.0 p.0 p.2 (λ there at is. c.in_err-add_transitions.ensures.stored there at (ap (λ (f : StoreFault). Err f) is)) part offset (sym p.1 ∙ e))

pub returns-in_err-add_transitions-clause-rose : goal.returns-in_err-add_transitions-clause-rose
returns-in_err-add_transitions-clause-rose g c = λ tells rs stands good part offset e.
    let p = err_from_is_err_and c.from_residual-in_err-add_transitions.result c.from_residual-in_err-add_transitions.ensures.1 in
    absurd (no_place c.in_err-add_transitions.field-0.0 p.0 p.2 (λ there at is. c.in_err-add_transitions.ensures.stored there at (ap (λ (f : StoreFault). Err f) is)) part offset (sym p.1 ∙ e))

pub returns-in_err-add_transitions-clause-cause : goal.returns-in_err-add_transitions-clause-cause
returns-in_err-add_transitions-clause-cause g c =
    let p = err_from_is_err_and c.from_residual-in_err-add_transitions.result c.from_residual-in_err-add_transitions.ensures.1 in
    rw p.1 (cause_later _ _ _ _ c.open_store.ensures.cause.later (cause_later _ _ _ _ c.run_store.ensures.cause.later
    (cause_of _ _ c.in_err-add_transitions.field-0.0 p.0 p.2 c.add_transitions.ensures.later (λ is. c.in_err-add_transitions.ensures.failed (ap (λ (f : StoreFault). Err f) is)))))

pub returns-in_err-add_transitions-clause-faults : goal.returns-in_err-add_transitions-clause-faults
returns-in_err-add_transitions-clause-faults g c =
    let p = err_from_is_err_and c.from_residual-in_err-add_transitions.result c.from_residual-in_err-add_transitions.ensures.1 in
    rw p.1 (opening_of c.in_err-add_transitions.field-0.0 p.0 p.2)

-- ---- the engine is made

pub returns-clause-opened : goal.returns-clause-opened
returns-clause-opened g c = λ tells.
    let seen = g.D.Disk.seen c.args.disk.now in
    let left = g.D.Disk.may_leave c.open_store.new.disk in
    let found = c.in_ok-store.ensures.found tells in
    let on = on_seen seen (g.D.Disk.seen c.open_store.new.disk) left found.0 c.in_ok-store.store (c.open_store.ensures.quiet tells).reads found.1 in
    (found.0, seen_stands seen left found.0 c.in_ok-store.store found.1, c.in_ok-run.ensures.asked tells found.0 on)

pub returns-clause-made : goal.returns-clause-made
returns-clause-made g c = λ tells rs stands good.
    let on = on_seen (g.D.Disk.seen c.args.disk.now) (g.D.Disk.seen c.open_store.new.disk) (g.D.Disk.may_leave c.open_store.new.disk) rs c.in_ok-store.store
    (c.open_store.ensures.quiet tells).reads (c.in_ok-store.ensures.opened tells rs stands) in
    let behind = on_quietly g.D.Disk.seen g.D.Disk.moment g.D.Disk.may_leave g.D.Disk.left_since _ _ rs c.in_ok-store.store (c.run_store.ensures.quiet tells) on in
    let h = c.in_ok-run.ensures.runs tells rs good.tasks on good.are good.consistent in
    let next = may_store g.N.Node g.N.ScriptNode.planned rs good _ _ h c.transition_laws.ensures.again _ _ c.in_ok-store.store behind c.in_ok-run.ensures.few in
    made_behind g.N.Node g.N.ScriptNode.planned rs good _ _ h _ _ c.add_transitions.new.store _
    (c.in_ok-run.ensures.numbered tells rs good.tasks on good.are good.consistent) (c.in_ok-add_transitions.ensures.added tells rs behind next)

pub returns-clause-any_moment : goal.returns-clause-any_moment
returns-clause-any_moment g c = λ tells rs stands good.
    let on = on_seen (g.D.Disk.seen c.args.disk.now) (g.D.Disk.seen c.open_store.new.disk) (g.D.Disk.may_leave c.open_store.new.disk) rs c.in_ok-store.store
    (c.open_store.ensures.quiet tells).reads (c.in_ok-store.ensures.opened tells rs stands) in
    let behind = on_quietly g.D.Disk.seen g.D.Disk.moment g.D.Disk.may_leave g.D.Disk.left_since _ _ rs c.in_ok-store.store (c.run_store.ensures.quiet tells) on in
    let h = c.in_ok-run.ensures.runs tells rs good.tasks on good.are good.consistent in
    let next = may_store g.N.Node g.N.ScriptNode.planned rs good _ _ h c.transition_laws.ensures.again _ _ c.in_ok-store.store behind c.in_ok-run.ensures.few in
    good_moments g.N.Node g.N.ScriptNode.planned rs good _ _ h g.D.Disk.seen g.D.Disk.moment g.D.Disk.may_leave g.D.Disk.left_since _ _ _
    (quiet_then g.D.Disk.seen g.D.Disk.moment g.D.Disk.may_leave g.D.Disk.left_since _ _ _ (c.open_store.ensures.quiet tells) (c.run_store.ensures.quiet tells))
    (c.add_transitions.ensures.any_moment tells rs behind next)

pub returns-clause-again : goal.returns-clause-again
returns-clause-again g c = λ tells rs stands full.
    let on = on_seen (g.D.Disk.seen c.args.disk.now) (g.D.Disk.seen c.open_store.new.disk) (g.D.Disk.may_leave c.open_store.new.disk) rs c.in_ok-store.store
    (c.open_store.ensures.quiet tells).reads (c.in_ok-store.ensures.opened tells rs stands) in
    let h = c.in_ok-run.ensures.runs tells rs full.good.tasks on full.good.are full.good.consistent in
    let none = none_missing g.N.Node g.N.ScriptNode.planned rs full _ _ h in
    quiet_still g.D.Disk.seen g.D.Disk.moment g.D.Disk.may_leave g.D.Disk.left_since _ _ _
    (quiet_then g.D.Disk.seen g.D.Disk.moment g.D.Disk.may_leave g.D.Disk.left_since _ _ _ (c.open_store.ensures.quiet tells) (c.run_store.ensures.quiet tells))
    (c.add_transitions.ensures.none none)

pub returns-clause-cause : goal.returns-clause-cause
returns-clause-cause g c = cause_none _ _ _ (omega (arith, c.open_store.ensures.cause.later, c.run_store.ensures.cause.later, c.add_transitions.ensures.later))
