use Rattle.std.proofs.Common.{inr, length, ap, ◌∙◌, arith}
use Rattle.std.proofs.lemmas.Result.{err_from_is_err_and}
use Rattle.engine_store.proofs.CauseLaws.{cause_later, cause_none, cause_of, cause_other, cause_same}
use Rattle.kap_engine.proofs.AddLaws.{disk_rose, fault_of, none_placed, spent_of, still_of}
use Rattle.kap_engine.proofs.BatchLaws.{batch_held}
use Rattle.kap_engine.proofs.ViewLaws.{engine_of}
use Rattle.kap_engine.proofs.WriteLaws.{batch_moments, due_moments, good_batch, ran_batch, written}
use Rattle.kap_engine.proofs.engine.Engine.write.Goals as goal

-- ---- the batch isn't stored

pub returns-in-Err-clause-any_moment : goal.returns-in-Err-clause-any_moment
returns-in-Err-clause-any_moment g c = λ tells rs at.
    let e = engine_of g.N.Node g.N.ScriptNode.planned rs _ _ _ _ c.self.view_is at in
    batch_moments g.N.Node g.N.ScriptNode.planned rs c.args.db.now c.args.rp.now c.args.points c.as_slice.result.now c.as_slice.ensures at.full c.effects_come_behind.ensures
    g.D.Disk.moment g.D.Disk.may_leave g.D.Disk.left_since _ _ (c.add_batch.ensures.any_moment tells rs e.on)

pub returns-in-Err-clause-still : goal.returns-in-Err-clause-still
returns-in-Err-clause-still g c = λ unspent.
    still_of c.in-Err.fault _ _ _ _ _ c.self.inside.run c.self.inside.stored c.self.inside.spent c.spent-self-inside.result c.args.self.now c.in-Err.ensures.cause c.spent-self-inside.ensures c.self.view_is c.requires.unspent unspent

pub returns-in-Err-clause-spends : goal.returns-in-Err-clause-spends
returns-in-Err-clause-spends g c = spent_of c.in-Err.fault c.from.result _ _ _ _ _ c.spent-self-inside.result c.from.ensures c.in-Err.ensures.cause c.spent-self-inside.ensures

pub returns-in-Err-clause-faults : goal.returns-in-Err-clause-faults
returns-in-Err-clause-faults g c = fault_of c.in-Err.fault c.from.result c.from.ensures (none_placed c.in-Err.fault _ _ _ _ _ c.in-Err.ensures.cause)

pub returns-in-Err-clause-cause : goal.returns-in-Err-clause-cause
returns-in-Err-clause-cause g c = cause_of _ _ c.in-Err.fault c.from.result c.from.ensures c.add_batch.ensures.later (disk_rose c.in-Err.fault _ _ _ _ _ c.in-Err.ensures.cause)

-- ---- its points don't run

pub returns-in_err-text-clause-any_moment : goal.returns-in_err-text-clause-any_moment
returns-in_err-text-clause-any_moment g c = λ tells rs at.
    let e = engine_of g.N.Node g.N.ScriptNode.planned rs _ _ _ _ c.self.view_is at in
    batch_moments g.N.Node g.N.ScriptNode.planned rs c.args.db.now c.args.rp.now c.args.points c.as_slice.result.now c.as_slice.ensures at.full c.effects_come_behind.ensures
    g.D.Disk.moment g.D.Disk.may_leave g.D.Disk.left_since _ _ (c.add_batch.ensures.any_moment tells rs e.on)

pub returns-in_err-text-clause-faults : goal.returns-in_err-text-clause-faults
returns-in_err-text-clause-faults g c =
    let p = err_from_is_err_and c.from_residual.result c.from_residual.ensures.1 in
    rw p.1 (inr p.2)

pub returns-in_err-text-clause-cause : goal.returns-in_err-text-clause-cause
returns-in_err-text-clause-cause g c =
    let p = err_from_is_err_and c.from_residual.result c.from_residual.ensures.1 in
    rw p.1 (cause_other _ _ p.0 c.add_batch.ensures.later (λ e. absurd (cc (p.2, e))))

-- ---- what is due isn't stored

pub returns-in_err-self-inside-clause-any_moment : goal.returns-in_err-self-inside-clause-any_moment
returns-in_err-self-inside-clause-any_moment g c = λ tells rs at.
    let e = engine_of g.N.Node g.N.ScriptNode.planned rs _ _ _ _ c.self.view_is at in
    let ran = ran_batch g.N.Node g.N.ScriptNode.planned c.args.points rs c.args.db.now c.args.rp.now _ _ _ _ _ _ c.self.view_is at c.as_slice.result.now c.as_slice.ensures _
    (c.in_default.ensures.added tells rs) c.open_lives_run.ensures.run _ c.in_ok-text.ensures.runs _ _ c.in_ok-text.ensures.tells in
    let good = good_batch g.N.Node g.N.ScriptNode.planned c.args.points rs c.args.db.now c.args.rp.now at.full c.effects_come_behind.ensures in
    due_moments g.N.Node g.N.ScriptNode.planned rs c.args.db.now c.args.rp.now c.args.points c.as_slice.result.now c.as_slice.ensures at.full c.effects_come_behind.ensures g.D.Disk.moment g.D.Disk.may_leave g.D.Disk.left_since _ _ _
    (c.add_batch.ensures.any_moment tells rs e.on) (c.store_due.ensures.any_moment tells _ good ran.on ran.all c.in_ok-text.ensures.few)

pub returns-in_err-self-inside-clause-faults : goal.returns-in_err-self-inside-clause-faults
returns-in_err-self-inside-clause-faults g c =
    let p = err_from_is_err_and c.from_residual-in_err-self-inside.result c.from_residual-in_err-self-inside.ensures.1 in
    rw (p.1, p.2) c.in_err-self-inside.ensures.faults

pub returns-in_err-self-inside-clause-cause : goal.returns-in_err-self-inside-clause-cause
returns-in_err-self-inside-clause-cause g c =
    let p = err_from_is_err_and c.from_residual-in_err-self-inside.result c.from_residual-in_err-self-inside.ensures.1 in
    cause_same _ _ _ c.in_err-self-inside.field-0.0 p.0 p.1 p.2 (cause_later _ _ _ _ c.add_batch.ensures.later c.in_err-self-inside.ensures.cause)

-- ---- all is

pub returns-clause-written : goal.returns-clause-written
returns-clause-written g c = λ tells rs at.
    let e = engine_of g.N.Node g.N.ScriptNode.planned rs _ _ _ _ c.self.view_is at in
    let ran = ran_batch g.N.Node g.N.ScriptNode.planned c.args.points rs c.args.db.now c.args.rp.now _ _ _ _ _ _ c.self.view_is at c.as_slice.result.now c.as_slice.ensures _
    (c.in_default.ensures.added tells rs) c.open_lives_run.ensures.run _ c.in_ok-text.ensures.runs _ _ c.in_ok-text.ensures.tells in
    let good = good_batch g.N.Node g.N.ScriptNode.planned c.args.points rs c.args.db.now c.args.rp.now at.full c.effects_come_behind.ensures in
    let named = ap length c.in_ok-text.ensures.names ∙ e.numbered in
    written g.N.Node g.N.ScriptNode.planned rs _ c.args.points at.full (batch_held rs c.args.db.now c.args.rp.now c.args.points) c.run_points.new.run c.in_ok-text.text c.in_ok-text.told.items _ c.in_ok-self-inside.ensures.same _ _ _
    (c.in_ok-self-inside.ensures.stored tells _ good ran.on ran.all c.in_ok-text.ensures.few) ran.ran named ran.told_is

pub returns-clause-any_moment : goal.returns-clause-any_moment
returns-clause-any_moment g c = λ tells rs at.
    let e = engine_of g.N.Node g.N.ScriptNode.planned rs _ _ _ _ c.self.view_is at in
    let ran = ran_batch g.N.Node g.N.ScriptNode.planned c.args.points rs c.args.db.now c.args.rp.now _ _ _ _ _ _ c.self.view_is at c.as_slice.result.now c.as_slice.ensures _
    (c.in_default.ensures.added tells rs) c.open_lives_run.ensures.run _ c.in_ok-text.ensures.runs _ _ c.in_ok-text.ensures.tells in
    let good = good_batch g.N.Node g.N.ScriptNode.planned c.args.points rs c.args.db.now c.args.rp.now at.full c.effects_come_behind.ensures in
    due_moments g.N.Node g.N.ScriptNode.planned rs c.args.db.now c.args.rp.now c.args.points c.as_slice.result.now c.as_slice.ensures at.full c.effects_come_behind.ensures g.D.Disk.moment g.D.Disk.may_leave g.D.Disk.left_since _ _ _
    (c.add_batch.ensures.any_moment tells rs e.on) (c.store_due.ensures.any_moment tells _ good ran.on ran.all c.in_ok-text.ensures.few)

pub returns-clause-cause : goal.returns-clause-cause
returns-clause-cause g c = cause_none _ _ _ (omega (arith, c.add_batch.ensures.later, c.store_due.ensures.cause.later))
