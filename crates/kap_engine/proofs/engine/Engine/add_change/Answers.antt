use Rattle.std.proofs.Common.{length, subst, sym}
use Rattle.store_records.specs.Held.{begun}
use Rattle.store_records.specs.Histories.{end_of, held}
use Rattle.engine_store.proofs.CauseLaws.{cause_of}
use Rattle.kap_engine.specs.Changing.{AreNext}
use Rattle.kap_engine.specs.Engines.{EngineValue}
use Rattle.kap_engine.proofs.AddLaws.{disk_rose, spent_of, still_of}
use Rattle.kap_engine.proofs.ChangeLaws.{begun_turned, full_moments, turned_behind}
use Rattle.kap_engine.proofs.RefusalLaws.{add_failed}
use Rattle.kap_engine.proofs.ViewLaws.{engine_of}
use Rattle.kap_engine.proofs.engine.Engine.add_change.Goals as goal

-- ---- the record isn't added

pub returns-in-Err-clause-any_moment : goal.returns-in-Err-clause-any_moment
returns-in-Err-clause-any_moment g c = λ tells rs at may defines.
    let e = engine_of g.N.Node g.N.ScriptNode.planned rs _ _ _ _ c.self.view_is at in
    full_moments g.N.Node g.N.ScriptNode.planned rs c.args.rec.now c.requires.changes defines e.full g.D.Disk.moment g.D.Disk.may_leave g.D.Disk.left_since _ _ (c.add.ensures.any_moment tells rs may e.on)

pub returns-in-Err-clause-failed : goal.returns-in-Err-clause-failed
returns-in-Err-clause-failed g c = add_failed _ _ _ _ _ c.in-Err.fault c.from.result c.from.ensures c.in-Err.ensures.cause

pub returns-in-Err-clause-quiet : goal.returns-in-Err-clause-quiet
returns-in-Err-clause-quiet g c = λ unspent.
    still_of c.in-Err.fault _ _ _ _ _ c.self.inside.run c.self.inside.stored c.self.inside.spent c.spent-self-inside.result c.args.self.now c.in-Err.ensures.cause c.spent-self-inside.ensures c.self.view_is c.requires.unspent unspent

pub returns-in-Err-clause-spends : goal.returns-in-Err-clause-spends
returns-in-Err-clause-spends g c = spent_of c.in-Err.fault c.from.result _ _ _ _ _ c.spent-self-inside.result c.from.ensures c.in-Err.ensures.cause c.spent-self-inside.ensures

pub returns-in-Err-clause-cause : goal.returns-in-Err-clause-cause
returns-in-Err-clause-cause g c = cause_of _ _ c.in-Err.fault c.from.result c.from.ensures c.add.ensures.later (disk_rose c.in-Err.fault _ _ _ _ _ c.in-Err.ensures.cause)

-- ---- memory runs out where a life begins

pub returns-in_err-begin_planned-clause-any_moment : goal.returns-in_err-begin_planned-clause-any_moment
returns-in_err-begin_planned-clause-any_moment g c = λ tells rs at may defines.
    let e = engine_of g.N.Node g.N.ScriptNode.planned rs _ _ _ _ c.self.view_is at in
    full_moments g.N.Node g.N.ScriptNode.planned rs c.args.rec.now c.requires.changes defines e.full g.D.Disk.moment g.D.Disk.may_leave g.D.Disk.left_since _ _ (c.add.ensures.any_moment tells rs may e.on)

-- ---- all is done

pub returns-clause-changed : goal.returns-clause-changed
returns-clause-changed g c = λ tells rs at may defines are.
    let e = engine_of g.N.Node g.N.ScriptNode.planned rs _ _ _ _ c.self.view_is at in
    let here = subst (λ (v : EngineValue _). AreNext g.N.Node g.N.ScriptNode.planned (length v.run.names) (begun (length (held rs).points) (end_of rs) c.args.rec.now (held rs).tasks) c.args.next) (sym c.self.view_is) are in
    let t = begun_turned g.N.Node g.N.ScriptNode.planned rs c.args.rec.now c.requires.changes defines e.full c.self.inside.run e.runs e.numbered c.begin_planned.new.run c.args.next c.in_ok-begin_planned.ensures.begun here in
    turned_behind g.N.Node g.N.ScriptNode.planned rs c.args.rec.now c.requires.changes defines e.full _ _ _ _ _ _ _ _
    (c.in_default.ensures.added tells rs may e.on) c.lives.ensures c.end_lives.ensures.runs c.end_lives.ensures.names t.0 t.1

pub returns-clause-any_moment : goal.returns-clause-any_moment
returns-clause-any_moment g c = λ tells rs at may defines.
    let e = engine_of g.N.Node g.N.ScriptNode.planned rs _ _ _ _ c.self.view_is at in
    full_moments g.N.Node g.N.ScriptNode.planned rs c.args.rec.now c.requires.changes defines e.full g.D.Disk.moment g.D.Disk.may_leave g.D.Disk.left_since _ _ (c.add.ensures.any_moment tells rs may e.on)
