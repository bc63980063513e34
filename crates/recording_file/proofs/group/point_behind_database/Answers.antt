use Rattle.std.proofs.Common.{◌∙◌, sym, refl, subst}
use Rattle.std.proofs.lemmas.Result.{err_from_is_err_and}
use Rattle.std.proofs.lemmas.Bool.{OnTrue_at, OnFalse_at}
use Rattle.recording_file.specs.declared.fault.RecFault.TheVariants as rec_faults
use Rattle.recording_file.specs.Recording.{Faulty}
use Rattle.recording_file.specs.Steps.{read_policy, read_database, GivesPoint, FailsBy, PassesName, StopsWith}
use Rattle.recording_file.proofs.FindLaws.{reads_more}
use Rattle.recording_file.proofs.StepLaws.{ahead_on, database_step}
use Rattle.recording_file.proofs.HaltLaws.{database_name, stops_missing}
use Rattle.recording_file.proofs.PointLaws.{value_map, err_map}
use Rattle.recording_file.proofs.group.point_behind_database.Goals as goal

pub returns-in_err-pass_name-clause-fault : goal.returns-in_err-pass_name-clause-fault
returns-in_err-pass_name-clause-fault g c =
    let p = err_from_is_err_and c.from_residual.result c.from_residual.ensures.1 in
    rw (p.1, p.2) (λ ps h. c.in_err-pass_name.ensures.fault (read_database c.args.db.now) ps (database_name c.args.db.now) h)

pub returns-then-not-branch-clause-fault : goal.returns-then-not-branch-clause-fault
returns-then-not-branch-clause-fault g c =
    let missing = OnFalse_at c.if-not-branch.true c.in_ok-pass_name.ensures.end in
    λ ps h. subst (λ n. StopsWith ps c.pass_name.new.lines (Faulty (rec_faults.Truncated n))) (sym c.line.ensures)
    (stops_missing (read_database c.args.db.now) ps c.pass_name.new.lines (ahead_on _ ps _ _ _ _ missing.stays h) (λ n. Faulty (rec_faults.Truncated n)) (λ n. refl) missing.bytes missing.ended)

pub returns-clause-reads : goal.returns-clause-reads
returns-clause-reads g c = reads_more _ _ _ _ _ _ _ _ _ c.in_ok-pass_name.ensures.reads c.point_behind_policy.ensures.reads

pub returns-clause-point : goal.returns-clause-point
returns-clause-point g c =
    let db = c.args.db.now in
    let rp = c.pass_name.new.name in
    let name : PassesName rp c.args.lines.now c.pass_name.new.lines = OnTrue_at c.if-not-branch.false c.in_ok-pass_name.ensures.name in
    value_map (GivesPoint (read_policy db rp) c.pass_name.new.lines c.point_behind_policy.new.lines) (GivesPoint (read_database db) c.args.lines.now c.point_behind_policy.new.lines) c.point_behind_policy.result
    (λ point gives ps h. gives ps (name (read_database db) (read_policy db rp) ps (λ n line seen is. database_step db rp n line seen is) h)) c.point_behind_policy.ensures.point

pub returns-clause-fault : goal.returns-clause-fault
returns-clause-fault g c =
    let db = c.args.db.now in
    let rp = c.pass_name.new.name in
    let name : PassesName rp c.args.lines.now c.pass_name.new.lines = OnTrue_at c.if-not-branch.false c.in_ok-pass_name.ensures.name in
    err_map (FailsBy (read_policy db rp) c.pass_name.new.lines c.point_behind_policy.new.lines) (FailsBy (read_database db) c.args.lines.now c.point_behind_policy.new.lines) c.point_behind_policy.result
    (λ fault fails ps h. fails ps (name (read_database db) (read_policy db rp) ps (λ n line seen is. database_step db rp n line seen is) h)) c.point_behind_policy.ensures.fault

pub returns-in_err-pass_name-clause-held : goal.returns-in_err-pass_name-clause-held
returns-in_err-pass_name-clause-held g c = λ h. c.in_err-pass_name.ensures.held 1 h

pub returns-then-not-branch-clause-held : goal.returns-then-not-branch-clause-held
returns-then-not-branch-clause-held g c = λ h. c.in_ok-pass_name.ensures.held 1 h

pub returns-clause-held : goal.returns-clause-held
returns-clause-held g c = λ h. c.point_behind_policy.ensures.held (OnTrue_at c.if-not-branch.false (c.in_ok-pass_name.ensures.others 1 h)) ∙ c.in_ok-pass_name.ensures.held 1 h
