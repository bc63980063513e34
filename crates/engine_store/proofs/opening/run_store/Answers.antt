use Rattle.std.proofs.Common.{Err, sym, ap, subst, ◌∙◌, arith}
use Rattle.std.proofs.lemmas.Result.{err_from_is_err_and}
use Rattle.kap_io.specs.Moments.{quiet_then}
use Rattle.store_records.specs.Histories.{held}
use Rattle.topic_store.proofs.Quietly.{on_quietly}
use Rattle.engine_store.specs.declared.fault.EngineFault.{EngineFault}
use Rattle.engine_store.specs.declared.fault.EngineFault.TheVariants.{NotStore}
use Rattle.engine_store.specs.Faults.{IsOfOpening}
use Rattle.engine_store.proofs.CauseLaws.{cause_later, cause_none, cause_other, cause_same, run_no_disk, run_of_opening, same_fault, why_asked, why_later, why_run}
use Rattle.engine_store.proofs.ReadLaws.{all_named, turned}
use Rattle.engine_store.proofs.WhyLaws.{scripts_held}
use Rattle.engine_store.proofs.opening.run_store.Goals as goal

-- ---- a script is that of no task

pub returns-in-Err-clause-why : goal.returns-in-Err-clause-why
returns-in-Err-clause-why g c = λ tells rs on part offset e.
    let why = why_asked g.N.Node g.N.ScriptNode.planned (g.P.Patterns.refusals c.args.pats.now) (g.P.Patterns.refusals c.ask_scripts.new.pats) (g.P.Patterns.refused c.ask_scripts.new.pats) rs
    c.part.result 0 c.in-Err.fault c.run_fault.result c.tasks.result.now c.lives.result.now c.run_fault.ensures (c.tasks.ensures ∙ on.kept.keeps.tasks) (c.lives.ensures ∙ on.kept.keeps.lives)
    c.in-Err.ensures.why part offset e in
    (why.0 ∙ c.part.ensures, why.1)

pub returns-in-Err-clause-cause : goal.returns-in-Err-clause-cause
returns-in-Err-clause-cause g c =
    cause_other _ _ c.run_fault.result (omega arith) (λ disk. run_no_disk c.part.result 0 c.in-Err.fault (sym c.run_fault.ensures ∙ disk))

pub returns-in-Err-clause-faults : goal.returns-in-Err-clause-faults
returns-in-Err-clause-faults g c = subst IsOfOpening (sym c.run_fault.ensures) (run_of_opening c.part.result 0 c.in-Err.fault)

-- ---- the lives don't begin

pub returns-in_err-run-clause-why : goal.returns-in_err-run-clause-why
returns-in_err-run-clause-why g c = λ tells rs on part offset e.
    let p = err_from_is_err_and c.from_residual.result c.from_residual.ensures.1 in
    let all = scripts_held c.tasks.result.now (held rs).tasks c.lives.result.now (held rs).lives (c.tasks.ensures ∙ on.kept.keeps.tasks) (c.lives.ensures ∙ on.kept.keeps.lives) c.in_default.ensures.ok in
    why_later g.N.Node g.N.ScriptNode.planned (g.P.Patterns.refusals c.args.pats.now) (g.P.Patterns.refusals c.begin_run.new.pats) (g.P.Patterns.refused c.begin_run.new.pats) rs
    c.args.store.now.log.part part (g.P.Patterns.refusals c.ask_scripts.new.pats) offset c.in_default.ensures.kept
    (c.in_err-run.ensures.why tells rs on all part offset (ap (λ (f : EngineFault). Err f) (sym p.2 ∙ same_fault _ p.0 (NotStore part offset) p.1 e)))

pub returns-in_err-run-clause-cause : goal.returns-in_err-run-clause-cause
returns-in_err-run-clause-cause g c =
    let p = err_from_is_err_and c.from_residual.result c.from_residual.ensures.1 in
    cause_same _ _ _ c.in_err-run.field-0.0 p.0 p.1 p.2 c.in_err-run.ensures.cause

pub returns-in_err-run-clause-faults : goal.returns-in_err-run-clause-faults
returns-in_err-run-clause-faults g c =
    let p = err_from_is_err_and c.from_residual.result c.from_residual.ensures.1 in
    rw p.1 (subst IsOfOpening (sym p.2) c.in_err-run.ensures.faults)

-- ---- they don't run

pub returns-in_err-due-clause-why : goal.returns-in_err-due-clause-why
returns-in_err-due-clause-why g c = λ tells rs on part offset e.
    let p = err_from_is_err_and c.from_residual-in_err-due.result c.from_residual-in_err-due.ensures.1 in
    let all = scripts_held c.tasks.result.now (held rs).tasks c.lives.result.now (held rs).lives (c.tasks.ensures ∙ on.kept.keeps.tasks) (c.lives.ensures ∙ on.kept.keeps.lives) c.in_default.ensures.ok in
    let there = on_quietly g.D.Disk.seen g.D.Disk.moment g.D.Disk.may_leave g.D.Disk.left_since _ _ rs c.args.store.now (c.begin_run.ensures.quiet tells) on in
    why_later g.N.Node g.N.ScriptNode.planned (g.P.Patterns.refusals c.args.pats.now) (g.P.Patterns.refusals c.run_rest.new.pats) (g.P.Patterns.refused c.run_rest.new.pats) rs
    c.args.store.now.log.part part (g.P.Patterns.refusals c.begin_run.new.pats) offset (c.in_ok-run.ensures.kept ∙ c.in_default.ensures.kept)
    (c.in_err-due.ensures.why tells rs there all part offset (ap (λ (f : EngineFault). Err f) (sym p.2 ∙ same_fault _ p.0 (NotStore part offset) p.1 e)))

pub returns-in_err-due-clause-quiet : goal.returns-in_err-due-clause-quiet
returns-in_err-due-clause-quiet g c = λ tells.
    quiet_then g.D.Disk.seen g.D.Disk.moment g.D.Disk.may_leave g.D.Disk.left_since _ _ _ (c.begin_run.ensures.quiet tells) (c.run_rest.ensures.quiet tells)

pub returns-in_err-due-clause-cause : goal.returns-in_err-due-clause-cause
returns-in_err-due-clause-cause g c =
    let p = err_from_is_err_and c.from_residual-in_err-due.result c.from_residual-in_err-due.ensures.1 in
    cause_same _ _ _ c.in_err-due.field-0.0 p.0 p.1 p.2 (cause_later _ _ _ _ c.begin_run.ensures.cause.later c.in_err-due.ensures.cause)

pub returns-in_err-due-clause-faults : goal.returns-in_err-due-clause-faults
returns-in_err-due-clause-faults g c =
    let p = err_from_is_err_and c.from_residual-in_err-due.result c.from_residual-in_err-due.ensures.1 in
    rw p.1 (subst IsOfOpening (sym p.2) c.in_err-due.ensures.faults)

-- ---- one that begins behind all points can't

pub returns-in-Err-turn-clause-why : goal.returns-in-Err-turn-clause-why
returns-in-Err-turn-clause-why g c = λ tells rs on part offset e.
    let all = scripts_held c.tasks.result.now (held rs).tasks c.lives.result.now (held rs).lives (c.tasks.ensures ∙ on.kept.keeps.tasks) (c.lives.ensures ∙ on.kept.keeps.lives) c.in_default.ensures.ok in
    let why = why_run g.N.Node g.N.ScriptNode.planned (g.P.Patterns.refusals c.args.pats.now) (g.P.Patterns.refusals c.turn.new.pats) (g.P.Patterns.refused c.turn.new.pats) rs
    c.part-in-Err-turn.result 0 c.in-Err-turn.fault c.run_fault-in-Err-turn.result (g.P.Patterns.refusals c.run_rest.new.pats) c.lives-2.result.now c.run_fault-in-Err-turn.ensures all
    (c.in_ok-due.ensures.kept ∙ c.in_ok-run.ensures.kept ∙ c.in_default.ensures.kept) (c.lives-2.ensures ∙ on.kept.keeps.lives) c.in-Err-turn.ensures.why part offset e in
    (why.0 ∙ c.part-in-Err-turn.ensures, why.1)

pub returns-in-Err-turn-clause-quiet : goal.returns-in-Err-turn-clause-quiet
returns-in-Err-turn-clause-quiet g c = λ tells.
    quiet_then g.D.Disk.seen g.D.Disk.moment g.D.Disk.may_leave g.D.Disk.left_since _ _ _ (c.begin_run.ensures.quiet tells) (c.run_rest.ensures.quiet tells)

pub returns-in-Err-turn-clause-cause : goal.returns-in-Err-turn-clause-cause
returns-in-Err-turn-clause-cause g c =
    cause_other _ _ c.run_fault-in-Err-turn.result (omega (arith, c.begin_run.ensures.cause.later, c.run_rest.ensures.cause.later))
    (λ disk. run_no_disk c.part-in-Err-turn.result 0 c.in-Err-turn.fault (sym c.run_fault-in-Err-turn.ensures ∙ disk))

pub returns-in-Err-turn-clause-faults : goal.returns-in-Err-turn-clause-faults
returns-in-Err-turn-clause-faults g c =
    subst IsOfOpening (sym c.run_fault-in-Err-turn.ensures) (run_of_opening c.part-in-Err-turn.result 0 c.in-Err-turn.fault)

-- ---- there are too many transitions

pub returns-then-is_none-clause-quiet : goal.returns-then-is_none-clause-quiet
returns-then-is_none-clause-quiet g c = λ tells.
    quiet_then g.D.Disk.seen g.D.Disk.moment g.D.Disk.may_leave g.D.Disk.left_since _ _ _ (c.begin_run.ensures.quiet tells) (c.run_rest.ensures.quiet tells)

pub returns-then-is_none-clause-cause : goal.returns-then-is_none-clause-cause
returns-then-is_none-clause-cause g c = cause_other _ _ _ (omega (arith, c.begin_run.ensures.cause.later, c.run_rest.ensures.cause.later)) (λ e. absurd cc)

-- ---- all have run

pub returns-clause-asked : goal.returns-clause-asked
returns-clause-asked g c = λ tells rs on. record {
  scripts = scripts_held c.tasks.result.now (held rs).tasks c.lives.result.now (held rs).lives (c.tasks.ensures ∙ on.kept.keeps.tasks) (c.lives.ensures ∙ on.kept.keeps.lives) c.in_default.ensures.ok;
  states = c.in_ok-run.ensures.fits tells rs on;
}

pub returns-clause-runs : goal.returns-clause-runs
returns-clause-runs g c = λ tells rs tasks on are consistent.
    let there = on_quietly g.D.Disk.seen g.D.Disk.moment g.D.Disk.may_leave g.D.Disk.left_since _ _ rs c.args.store.now (c.begin_run.ensures.quiet tells) on in
    turned g.N.Node g.N.ScriptNode.planned rs tasks c.lives-2.result.now (c.lives-2.ensures ∙ on.kept.keeps.lives) are c.run_rest.new.run c.turn.new.self c.in_ok-due.due.items
    c.in_default-turn.ensures.runs (c.in_ok-due.ensures.runs tells rs tasks there are (c.in_ok-run.ensures.begun tells rs tasks on are consistent))

pub returns-clause-numbered : goal.returns-clause-numbered
returns-clause-numbered g c = λ tells rs tasks on are consistent.
    let there = on_quietly g.D.Disk.seen g.D.Disk.moment g.D.Disk.may_leave g.D.Disk.left_since _ _ rs c.args.store.now (c.begin_run.ensures.quiet tells) on in
    let ran = c.in_ok-due.ensures.runs tells rs tasks there are (c.in_ok-run.ensures.begun tells rs tasks on are consistent) in
    let same = c.lives-2.ensures ∙ on.kept.keeps.lives in
    all_named g.N.Node g.N.ScriptNode.planned rs tasks c.lives-2.result.now same are c.run_rest.new.run c.turn.new.self c.in_ok-due.due.items c.in_default-turn.ensures.all ran
    (turned g.N.Node g.N.ScriptNode.planned rs tasks c.lives-2.result.now same are c.run_rest.new.run c.turn.new.self c.in_ok-due.due.items c.in_default-turn.ensures.runs ran)

pub returns-clause-quiet : goal.returns-clause-quiet
returns-clause-quiet g c = λ tells.
    quiet_then g.D.Disk.seen g.D.Disk.moment g.D.Disk.may_leave g.D.Disk.left_since _ _ _ (c.begin_run.ensures.quiet tells) (c.run_rest.ensures.quiet tells)

pub returns-clause-cause : goal.returns-clause-cause
returns-clause-cause g c = cause_none _ _ _ (omega (arith, c.begin_run.ensures.cause.later, c.run_rest.ensures.cause.later))

pub returns-clause-kept : goal.returns-clause-kept
returns-clause-kept g c =
    c.in_default-turn.ensures.kept ∙ c.in_ok-due.ensures.kept ∙ c.in_ok-run.ensures.kept ∙ c.in_default.ensures.kept
