use Rattle.std.proofs.Common.{◌≡◌, ◌≢◌, ◌≤◌, Ok, Err, [], ◌∙◌, length, refl, sym, ap, take}
use Rattle.std.specs.Prelude.{IsTrue}
use Rattle.std.proofs.lemmas.Result.{err_from_is_err_and}
use Rattle.std.proofs.lemmas.Bool.{OnTrue_at}
use Rattle.std.proofs.KnownBytes.{Keeps-refl}
use Rattle.line_points.specs.declared.fault.LineFault.TheVariants as faults
use Rattle.line_points.specs.Body.{without_return}
use Rattle.recording_file.specs.Recording.{name_of_line}
use Rattle.recording_file.specs.Finding.{IsLine}
use Rattle.recording_file.proofs.FindLaws.{reads_passed, stays_kept}
use Rattle.recording_file.proofs.StepLaws.{ahead_on, ahead_name}
use Rattle.recording_file.proofs.HaltLaws.{fails_find, fails_line}
use Rattle.recording_file.proofs.PointLaws.{named_text, ok_at, err_at}
use Rattle.recording_file.proofs.group.pass_name.Goals as goal

pub returns-in_err-size-clause-fault : goal.returns-in_err-size-clause-fault
returns-in_err-size-clause-fault g c =
    let p = err_from_is_err_and c.from_residual.result c.from_residual.ensures.1 in
    rw (p.1, p.2) (λ R ps names h. fails_find R ps _ (ahead_on R ps _ _ _ _ c.in_err-size.ensures.stays h) names.halts _ c.in_err-size.ensures.fault)

pub returns-in_default-clause-end : goal.returns-in_default-clause-end
returns-in_default-clause-end g c =
    let none : (c.find.new.self.bytes ≡ []) × IsTrue c.find.new.self.ended = rw c.in_default.is at c.in_ok-size.ensures.none in
    record { stays = c.in_ok-size.ensures.stays; bytes = none.0; ended = none.1 }

pub returns-in_err-at_line-clause-fault : goal.returns-in_err-at_line-clause-fault
returns-in_err-at_line-clause-fault g c =
    let p = err_from_is_err_and c.from_residual-in_err-at_line.result c.from_residual-in_err-at_line.ensures.1 in
    let line : IsLine c.find.new.self c.in-Some.size = rw c.in-Some.is at c.in_ok-size.ensures.line in
    let text = without_return (take c.in-Some.size c.find.new.self.bytes) in
    rw (p.1, p.2) (λ R ps names h. fails_line R ps c.find.new.self (ahead_on R ps _ _ _ _ c.in_ok-size.ensures.stays h) c.in-Some.size c.line.result c.set_name.result _ line c.in_err-at_line.ensures.fault c.line.ensures
    (λ e other is seen. names.faulty c.find.new.self.line text e seen
    (ap name_of_line (sym c.text.ensures.text) ∙ err_at (λ f. f ≢ faults.NoMemory → name_of_line c.text.result.now ≡ Err f) c.set_name.result e c.set_name.ensures.fault is other)))

pub returns-clause-reads : goal.returns-clause-reads
returns-clause-reads g c = reads_passed _ _ _ _ _ c.in-Some.size c.in_ok-size.ensures.stays c.advance-2.ensures

pub returns-clause-name : goal.returns-clause-name
returns-clause-name g c =
    let line : IsLine c.find.new.self c.in-Some.size = rw c.in-Some.is at c.in_ok-size.ensures.line in
    let text = without_return (take c.in-Some.size c.find.new.self.bytes) in
    let set = ok_at ((name_of_line c.text.result.now ≡ Ok c.set_name.new.name) × (c.set_name.new.name ≡ c.text.result.now)) c.set_name.result c.in_ok-at_line.field-0 c.set_name.ensures.set c.in_ok-at_line.ensures.ok in
    λ R Q ps step h. ahead_name R Q ps c.find.new.self c.advance-2.new.self c.in-Some.size line c.advance-2.ensures
    (λ seen. step c.find.new.self.line text seen (ap name_of_line (sym c.text.ensures.text) ∙ set.0)) (ahead_on R ps _ _ _ _ c.in_ok-size.ensures.stays h)

pub returns-then-begins_with-clause-reads : goal.returns-then-begins_with-clause-reads
returns-then-begins_with-clause-reads g c = reads_passed _ _ _ _ _ _ (stays_kept _ _ _ _ refl (Keeps-refl _)) c.advance.ensures

pub returns-then-begins_with-clause-name : goal.returns-then-begins_with-clause-name
returns-then-begins_with-clause-name g c =
    let at = c.args.lines.now in
    let text = c.bytes-known.result.now in
    let found = without_return (take (length text) at.bytes) in
    let line = OnTrue_at {P = IsLine at (length text)} c.if-begins_with.true c.begins_with.ensures.line in
    let same = OnTrue_at {P = found ≡ text} c.if-begins_with.true c.begins_with.ensures.same in
    let short = OnTrue_at {P = length text ≤ 65536} c.if-begins_with.true c.begins_with.ensures.short in
    let is = ap name_of_line same ∙ named_text text c.args.name.now short c.bytes-known.ensures.utf8 (sym c.bytes-known.ensures.bytes) in
    λ R Q ps step h. ahead_name R Q ps at c.advance.new.self (length text) line c.advance.ensures (λ seen. step at.line found seen is) h
