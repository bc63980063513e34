use Rattle.std.proofs.Common.{◌∙◌}
use Rattle.std.proofs.lemmas.Result.{err_from_is_err_and}
use Rattle.std.proofs.lemmas.Bool.{OnTrue_at}
use Rattle.recording_file.specs.Recording.{read}
use Rattle.recording_file.specs.Steps.{read_database, PassesName}
use Rattle.recording_file.proofs.FindLaws.{reads_more}
use Rattle.recording_file.proofs.StepLaws.{group_step}
use Rattle.recording_file.proofs.HaltLaws.{group_name}
use Rattle.recording_file.proofs.group.next_point.Goals as goal

pub returns-in_err-pass_name-clause-fault : goal.returns-in_err-pass_name-clause-fault
returns-in_err-pass_name-clause-fault g c =
    let p = err_from_is_err_and c.from_residual.result c.from_residual.ensures.1 in
    rw (p.1, p.2) (λ ps h. c.in_err-pass_name.ensures.fault read ps group_name h)

pub returns-in_err-point-clause-reads : goal.returns-in_err-point-clause-reads
returns-in_err-point-clause-reads g c = reads_more _ _ _ _ _ _ _ _ _ c.in_ok-pass_name.ensures.reads c.in_err-point.ensures.reads

pub returns-in_err-point-clause-fault : goal.returns-in_err-point-clause-fault
returns-in_err-point-clause-fault g c =
    let p = err_from_is_err_and c.from_residual-in_err-point.result c.from_residual-in_err-point.ensures.1 in
    let db = c.pass_name.new.name in
    let name : PassesName db c.args.lines.now c.pass_name.new.lines = OnTrue_at c.if-not-branch.false c.in_ok-pass_name.ensures.name in
    rw (p.1, p.2) (λ ps h. c.in_err-point.ensures.fault ps (name read (read_database db) ps (λ n line seen is. group_step db n line seen is) h))

pub returns-clause-reads : goal.returns-clause-reads
returns-clause-reads g c = reads_more _ _ _ _ _ _ _ _ _ c.in_ok-pass_name.ensures.reads c.in_ok-point.ensures.reads

pub returns-clause-point : goal.returns-clause-point
returns-clause-point g c =
    let db = c.pass_name.new.name in
    let name : PassesName db c.args.lines.now c.pass_name.new.lines = OnTrue_at c.if-not-branch.false c.in_ok-pass_name.ensures.name in
    λ ps h. c.in_ok-point.ensures.point ps (name read (read_database db) ps (λ n line seen is. group_step db n line seen is) h)

pub returns-in_err-pass_name-clause-held : goal.returns-in_err-pass_name-clause-held
returns-in_err-pass_name-clause-held g c = λ h. c.in_err-pass_name.ensures.held 2 h

pub returns-then-not-branch-clause-held : goal.returns-then-not-branch-clause-held
returns-then-not-branch-clause-held g c = λ h. c.in_ok-pass_name.ensures.held 2 h

pub returns-in_err-point-clause-held : goal.returns-in_err-point-clause-held
returns-in_err-point-clause-held g c = λ h. c.in_err-point.ensures.held (OnTrue_at c.if-not-branch.false (c.in_ok-pass_name.ensures.others 2 h)) ∙ c.in_ok-pass_name.ensures.held 2 h

pub returns-clause-held : goal.returns-clause-held
returns-clause-held g c = λ h. c.in_ok-point.ensures.held (OnTrue_at c.if-not-branch.false (c.in_ok-pass_name.ensures.others 2 h)) ∙ c.in_ok-pass_name.ensures.held 2 h
