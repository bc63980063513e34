use Rattle.std.proofs.Common.{◌≡◌, ◌≢◌, Ok, Err, Some, [], ◌∙◌, sym, ap, take, refl, subst}
use Rattle.std.specs.Prelude.{IsTrue}
use Rattle.std.proofs.lemmas.Result.{err_from_is_err_and}
use Rattle.kap_base.specs.Points.{PointValue}
use Rattle.line_points.specs.declared.fault.LineFault.TheVariants as faults
use Rattle.line_points.specs.declared.mode.Mode.TheVariants as modes
use Rattle.line_points.specs.Body.{without_return}
use Rattle.line_points.specs.Line.{line_of}
use Rattle.recording_file.specs.declared.fault.RecFault.TheVariants as rec_faults
use Rattle.recording_file.specs.Recording.{Faulty, read}
use Rattle.recording_file.specs.Finding.{IsLine}
use Rattle.recording_file.specs.Steps.{read_policy, StopsWith}
use Rattle.recording_file.proofs.FindLaws.{reads_passed}
use Rattle.recording_file.proofs.StepLaws.{ahead_on, ahead_line, policy_step, policy_fault}
use Rattle.recording_file.proofs.HaltLaws.{fails_find, fails_line, stops_missing}
use Rattle.recording_file.proofs.PointLaws.{value_at, err_at}
use Rattle.recording_file.proofs.group.point_behind_policy.Goals as goal

pub returns-in_err-size-clause-fault : goal.returns-in_err-size-clause-fault
returns-in_err-size-clause-fault g c =
    let p = err_from_is_err_and c.from_residual.result c.from_residual.ensures.1 in
    rw (p.1, p.2) (λ ps h. fails_find (read_policy c.args.db.now c.args.rp.now) ps _ (ahead_on _ ps _ _ _ _ c.in_err-size.ensures.stays h)
    (λ n stop seen halt. halt.policy c.args.db.now c.args.rp.now) _ c.in_err-size.ensures.fault)

pub returns-in_default-clause-fault : goal.returns-in_default-clause-fault
returns-in_default-clause-fault g c =
    let none : (c.find.new.self.bytes ≡ []) × IsTrue c.find.new.self.ended = rw c.in_default.is at c.in_ok-size.ensures.none in
    λ ps h. subst (λ n. StopsWith ps c.find.new.self (Faulty (rec_faults.Truncated n))) (sym c.line.ensures)
    (stops_missing (read_policy c.args.db.now c.args.rp.now) ps c.find.new.self (ahead_on _ ps _ _ _ _ c.in_ok-size.ensures.stays h) (λ n. Faulty (rec_faults.Truncated n)) (λ n. refl) none.0 none.1)

pub returns-in_err-point-clause-fault : goal.returns-in_err-point-clause-fault
returns-in_err-point-clause-fault g c =
    let p = err_from_is_err_and c.from_residual-in_err-point.result c.from_residual-in_err-point.ensures.1 in
    let line : IsLine c.find.new.self c.in-Some.size = rw c.in-Some.is at c.in_ok-size.ensures.line in
    let text = without_return (take c.in-Some.size c.find.new.self.bytes) in
    rw (p.1, p.2) (λ ps h. fails_line (read_policy c.args.db.now c.args.rp.now) ps c.find.new.self (ahead_on _ ps _ _ _ _ c.in_ok-size.ensures.stays h) c.in-Some.size c.line-2.result c.read_recorded.result _ line c.in_err-point.ensures.fault c.line-2.ensures
    (λ e other is seen. policy_fault c.args.db.now c.args.rp.now c.find.new.self.line text e seen
    (ap (line_of c.args.db.now c.args.rp.now modes.Recording) (sym c.text.ensures.text) ∙ err_at (λ f. f ≢ faults.NoMemory → line_of c.args.db.now c.args.rp.now modes.Recording c.text.result.now ≡ Err f) c.read_recorded.result e c.read_recorded.ensures.fault is other)))

pub returns-clause-reads : goal.returns-clause-reads
returns-clause-reads g c = reads_passed _ _ _ _ _ c.in-Some.size c.in_ok-size.ensures.stays c.advance.ensures

pub returns-clause-point : goal.returns-clause-point
returns-clause-point g c =
    let line : IsLine c.find.new.self c.in-Some.size = rw c.in-Some.is at c.in_ok-size.ensures.line in
    let text = without_return (take c.in-Some.size c.find.new.self.bytes) in
    let point = c.in_ok-point.point in
    let read_as = value_at (λ (q : PointValue). line_of c.args.db.now c.args.rp.now modes.Recording c.text.result.now ≡ Ok (Some q)) c.read_recorded.result point c.read_recorded.ensures.read c.in_ok-point.ensures.ok in
    λ ps h. ahead_line (read_policy c.args.db.now c.args.rp.now) read ps _ c.find.new.self c.advance.new.self c.in-Some.size line c.advance.ensures
    (λ seen. policy_step c.args.db.now c.args.rp.now c.find.new.self.line text point seen (ap (line_of c.args.db.now c.args.rp.now modes.Recording) (sym c.text.ensures.text) ∙ read_as)) (ahead_on _ ps _ _ _ _ c.in_ok-size.ensures.stays h)
