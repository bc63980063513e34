use Rattle.std.proofs.Common.{sym, subst}
use Rattle.kap_server.specs.Changing.{OpensBehind}
use Rattle.kap_server.specs.Writing.{WrittenTo}
use Rattle.kap_server.specs.declared.status.Status.{Status}
use Rattle.kap_io.specs.Moments.{Quiet}
use Rattle.kap_server.proofs.ChangeLaws.{behind_none}
use Rattle.kap_server.proofs.WriteLaws.{none_opened, opened_then_written, opened_to_write, written_out}
use Rattle.kap_server.proofs.writing.write_on.Goals as goal

-- ---- no store was opened

pub returns-in-Err-clause-ends : goal.returns-in-Err-clause-ends
returns-in-Err-clause-ends g c = λ tells rs good stands.
    let before = g.P.Patterns.refusals c.args.pats.now in
    let after = g.P.Patterns.refusals c.make_engine.new.pats in
    let seen = g.D.Disk.seen c.make_engine.new.disk in
    let images = g.D.Disk.may_leave c.make_engine.new.disk in
    let w = g.K.Sink.written c.args.out.now in
    subst (λ (s : Status). WrittenTo g.N.Node g.N.ScriptNode.planned rs good c.args.points before after seen images w w c.args.ran.now s) (sym c.from.ensures)
    (none_opened g.N.Node g.N.ScriptNode.planned before after rs good c.args.points seen images w c.args.ran.now c.in-Err.fault c.in-Err.ensures.faults (c.in-Err.ensures.rose tells rs stands good))

pub returns-in-Err-clause-any_moment : goal.returns-in-Err-clause-any_moment
returns-in-Err-clause-any_moment g c = λ tells rs good stands.
    opened_to_write g.N.Node g.N.ScriptNode.planned rs c.args.points g.D.Disk.moment g.D.Disk.may_leave g.D.Disk.left_since _ _ (c.make_engine.ensures.any_moment tells rs stands good)

pub returns-in-Err-clause-opened : goal.returns-in-Err-clause-opened
returns-in-Err-clause-opened g c = λ tells.
    let before = g.P.Patterns.refusals c.args.pats.now in
    let after = g.P.Patterns.refusals c.make_engine.new.pats in
    let refused = g.P.Patterns.refused c.make_engine.new.pats in
    let still = Quiet g.D.Disk.seen g.D.Disk.moment g.D.Disk.may_leave g.D.Disk.left_since c.args.disk.now c.make_engine.new.disk in
    let files = g.D.Disk.seen c.args.disk.now in
    subst (λ (s : Status). OpensBehind g.N.Node g.N.ScriptNode.planned before after refused still files s) (sym c.from.ensures)
    (behind_none g.N.Node g.N.ScriptNode.planned before after refused still files c.in-Err.fault c.in-Err.ensures.faults
    (λ part offset is. (c.in-Err.ensures.refused tells part offset is, c.in-Err.ensures.still tells part offset is)))

-- ---- the points were written

pub returns-in-Ok-write-clause-ends : goal.returns-in-Ok-write-clause-ends
returns-in-Ok-write-clause-ends g c = λ tells rs good stands.
    let made = c.in-Ok.ensures.made tells rs stands good in
    let before = g.P.Patterns.refusals c.args.pats.now in
    let after = g.P.Patterns.refusals c.make_engine.new.pats in
    written_out g.N.Node g.N.ScriptNode.planned rs good (g.D.Disk.seen c.make_engine.new.disk) (g.D.Disk.may_leave c.make_engine.new.disk) c.in-Ok.engine made c.args.points
    (g.D.Disk.seen c.write.new.disk) (g.D.Disk.may_leave c.write.new.disk) c.write.new.self c.in-Ok-write.text (c.in-Ok-write.ensures.written tells made.records made.engine)
    before after (g.K.Sink.written c.args.out.now) (g.K.Sink.written c.hand_out.new.out) c.args.ran.now c.hand_out.new.ran c.hand_out.result
    c.hand_out.ensures.status c.hand_out.ensures.ok c.hand_out.ensures.err c.in-Ok-write.ensures.streams

pub returns-in-Ok-write-clause-any_moment : goal.returns-in-Ok-write-clause-any_moment
returns-in-Ok-write-clause-any_moment g c = λ tells rs good stands.
    let made = c.in-Ok.ensures.made tells rs stands good in
    opened_then_written g.N.Node g.N.ScriptNode.planned rs c.args.points g.D.Disk.seen g.D.Disk.moment g.D.Disk.may_leave g.D.Disk.left_since _ _ _ c.in-Ok.engine made
    (c.make_engine.ensures.any_moment tells rs stands good) (c.write.ensures.any_moment tells made.records made.engine)

-- ---- they weren't

pub returns-in-Err-write-clause-any_moment : goal.returns-in-Err-write-clause-any_moment
returns-in-Err-write-clause-any_moment g c = λ tells rs good stands.
    let made = c.in-Ok.ensures.made tells rs stands good in
    opened_then_written g.N.Node g.N.ScriptNode.planned rs c.args.points g.D.Disk.seen g.D.Disk.moment g.D.Disk.may_leave g.D.Disk.left_since _ _ _ c.in-Ok.engine made
    (c.make_engine.ensures.any_moment tells rs stands good) (c.write.ensures.any_moment tells made.records made.engine)
