use Rattle.std.proofs.Common.{◌≡◌, false, length, Err, Ok, refl, sym, subst, ◌∙◌, arith}
use Rattle.std.specs.Prelude.{Result, is_err}
use Rattle.std.proofs.lemmas.Bool.Decides.{nat_tests}
use Rattle.std.proofs.lemmas.Result.{err_from_is_err_and}
use Rattle.kap_io.specs.Moments.{quiet_start, quiet_then}
use Rattle.topic_store.specs.Points.{GivesOrNot}
use Rattle.topic_store.proofs.Quietly.{on_quietly}
use Rattle.engine_runs.specs.declared.fault.RunFault.{RunFault}
use Rattle.engine_store.specs.Faults.{IsOfOpening}
use Rattle.engine_store.proofs.CauseLaws.{cause_later, cause_none, cause_other, cause_store, no_place_by, opening_of, run_no_disk, run_of_opening, why_run}
use Rattle.engine_store.proofs.PassLaws.{nil_of}
use Rattle.engine_store.proofs.ReadLaws.{reading_done, reading_on, reading_start}
use Rattle.engine_store.proofs.opening.run_rest.Goals as goal

pub reading-init : goal.reading-init
reading-init g c = record {
  unspent = c.requires.unspent;
  kept = refl;
  quiet = λ tells. quiet_start g.D.Disk.seen g.D.Disk.moment g.D.Disk.may_leave g.D.Disk.left_since c.args.disk.now;
  later = omega arith;
  stands = λ tells rs on. record { points = _; before = c.read_points-reader.ensures rs on.kept };
  reads = λ tells rs tasks on are h.
      reading_start g.N.Node g.N.ScriptNode.planned rs tasks c.read_points-reader.result c.args.run.now c.points.result c.new-due.result.items h c.points.ensures
      (c.read_points-reader.ensures rs on.kept) c.new-due.ensures.items;
}

-- ---- a piece isn't read

pub returns-in_err-piece-clause-why : goal.returns-in_err-piece-clause-why
returns-in_err-piece-clause-why g c = λ tells rs on all part offset e.
    let p = err_from_is_err_and c.from_residual.result c.from_residual.ensures.1 in
    let there = on_quietly g.D.Disk.seen g.D.Disk.moment g.D.Disk.may_leave g.D.Disk.left_since _ _ rs c.args.store.now (c.reading.invariant.quiet tells) on in
    let stands = c.reading.invariant.stands tells rs on in
    absurd (no_place_by (λ f. GivesOrNot rs stands.points (Err f)) (λ there at none. none) c.in_err-piece.field-0.0 p.0 p.2
    (c.in_err-piece.ensures.points tells rs stands.points there stands.before) part offset (sym p.1 ∙ e))

pub returns-in_err-piece-clause-quiet : goal.returns-in_err-piece-clause-quiet
returns-in_err-piece-clause-quiet g c = λ tells.
    quiet_then g.D.Disk.seen g.D.Disk.moment g.D.Disk.may_leave g.D.Disk.left_since _ _ _ (c.reading.invariant.quiet tells) (c.next.ensures.quiet tells)

pub returns-in_err-piece-clause-cause : goal.returns-in_err-piece-clause-cause
returns-in_err-piece-clause-cause g c =
    let p = err_from_is_err_and c.from_residual.result c.from_residual.ensures.1 in
    rw p.1 (cause_later _ _ _ _ c.reading.invariant.later (cause_store _ _ c.in_err-piece.field-0.0 p.0 p.2 c.in_err-piece.ensures.cause))

pub returns-in_err-piece-clause-faults : goal.returns-in_err-piece-clause-faults
returns-in_err-piece-clause-faults g c =
    let p = err_from_is_err_and c.from_residual.result c.from_residual.ensures.1 in
    rw p.1 (opening_of c.in_err-piece.field-0.0 p.0 p.2)

-- ---- no point is left

pub returns-then-is_empty-clause-runs : goal.returns-then-is_empty-clause-runs
returns-then-is_empty-clause-runs g c = λ tells rs tasks on are h.
    let there = on_quietly g.D.Disk.seen g.D.Disk.moment g.D.Disk.may_leave g.D.Disk.left_since _ _ rs c.args.store.now (c.reading.invariant.quiet tells) on in
    let s = c.reading.invariant.reads tells rs tasks on are h in
    let gives = c.in_ok-piece.ensures.points tells rs s.others there s.before in
    reading_done g.N.Node g.N.ScriptNode.planned rs tasks c.reading.reader c.reading.run c.reading.due.items c.in_ok-piece.piece.items s gives.0
    (let none : length c.in_ok-piece.piece.items ≡ 0 = grind (arith, nat_tests) in nil_of c.in_ok-piece.piece.items none)

pub returns-then-is_empty-clause-quiet : goal.returns-then-is_empty-clause-quiet
returns-then-is_empty-clause-quiet g c = λ tells.
    quiet_then g.D.Disk.seen g.D.Disk.moment g.D.Disk.may_leave g.D.Disk.left_since _ _ _ (c.reading.invariant.quiet tells) (c.next.ensures.quiet tells)

pub returns-then-is_empty-clause-cause : goal.returns-then-is_empty-clause-cause
returns-then-is_empty-clause-cause g c = cause_none _ _ _ (omega (arith, c.reading.invariant.later, c.next.ensures.cause.later))

-- ---- a life can't be run

pub returns-in-Err-clause-why : goal.returns-in-Err-clause-why
returns-in-Err-clause-why g c = λ tells rs on all part offset e.
    let why = why_run g.N.Node g.N.ScriptNode.planned (g.P.Patterns.refusals c.args.pats.now) (g.P.Patterns.refusals c.run-ran.new.pats) (g.P.Patterns.refused c.run-ran.new.pats) rs
    c.part.result 0 c.in-Err.fault c.run_fault.result (g.P.Patterns.refusals c.reading.pats) c.lives.result.now c.run_fault.ensures all c.reading.invariant.kept
    (c.lives.ensures ∙ on.kept.keeps.lives) c.in-Err.ensures.why part offset e in
    (why.0 ∙ c.part.ensures, why.1)

pub returns-in-Err-clause-quiet : goal.returns-in-Err-clause-quiet
returns-in-Err-clause-quiet g c = λ tells.
    quiet_then g.D.Disk.seen g.D.Disk.moment g.D.Disk.may_leave g.D.Disk.left_since _ _ _ (c.reading.invariant.quiet tells) (c.next.ensures.quiet tells)

pub returns-in-Err-clause-cause : goal.returns-in-Err-clause-cause
returns-in-Err-clause-cause g c =
    cause_other _ _ c.run_fault.result (omega (arith, c.reading.invariant.later, c.next.ensures.cause.later))
    (λ disk. run_no_disk c.part.result 0 c.in-Err.fault (sym c.run_fault.ensures ∙ disk))

pub returns-in-Err-clause-faults : goal.returns-in-Err-clause-faults
returns-in-Err-clause-faults g c = subst IsOfOpening (sym c.run_fault.ensures) (run_of_opening c.part.result 0 c.in-Err.fault)

-- ---- a piece was run

no_fault : {T : Type 0} (r : Result T RunFault) → ((f : RunFault) → r ≡ Err f → ⊥) → is_err r ≡ false
no_fault (Ok x) not_err = refl
no_fault (Err f) not_err = absurd (not_err f refl)

pub reading-preserved : goal.reading-preserved
reading-preserved g c = record {
  unspent = c.run-ran.ensures.spent ∙ no_fault _ c.in_default.not-Err;
  kept = c.in_default.ensures.kept ∙ c.reading.invariant.kept;
  quiet = λ tells. quiet_then g.D.Disk.seen g.D.Disk.moment g.D.Disk.may_leave g.D.Disk.left_since _ _ _ (c.reading.invariant.quiet tells) (c.next.ensures.quiet tells);
  later = omega (arith, c.reading.invariant.later, c.next.ensures.cause.later);
  stands = λ tells rs on.
      let there = on_quietly g.D.Disk.seen g.D.Disk.moment g.D.Disk.may_leave g.D.Disk.left_since _ _ rs c.args.store.now (c.reading.invariant.quiet tells) on in
      let stands = c.reading.invariant.stands tells rs on in
      record { points = _; before = (c.in_ok-piece.ensures.points tells rs stands.points there stands.before).1 };
  reads = λ tells rs tasks on are h.
      let there = on_quietly g.D.Disk.seen g.D.Disk.moment g.D.Disk.may_leave g.D.Disk.left_since _ _ rs c.args.store.now (c.reading.invariant.quiet tells) on in
      let s = c.reading.invariant.reads tells rs tasks on are h in
      let gives = c.in_ok-piece.ensures.points tells rs s.others there s.before in
      reading_on g.N.Node g.N.ScriptNode.planned rs tasks c.lives.result.now (c.lives.ensures ∙ on.kept.keeps.lives) are c.reading.reader c.in_ok-piece.behind c.reading.run _ c.reading.due.items _
      c.trans_count.result c.deref.result.now (c.trans_count.ensures ∙ on.kept.keeps.transitions) s (c.deref.ensures.value ∙ gives.0) gives.1 c.in_default.ensures.runs c.in_default.ensures.due;
}

-- ---- there were too many pieces

pub returns-clause-cause : goal.returns-clause-cause
returns-clause-cause g c = cause_other _ _ _ c.reading.invariant.later (λ e. absurd cc)
