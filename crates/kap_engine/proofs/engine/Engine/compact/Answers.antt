use Rattle.store_compact.specs.Staying.{staying}
use Rattle.topic_store.specs.Stores.{IsOn}
use Rattle.kap_engine.proofs.CompactLaws.{compact_moments, engine_staying, rewrite_failed}
use Rattle.kap_engine.proofs.ViewLaws.{engine_of}
use Rattle.kap_engine.proofs.engine.Engine.compact.Goals as goal

-- ---- the store isn't rewritten

pub returns-in-Err-clause-any_moment : goal.returns-in-Err-clause-any_moment
returns-in-Err-clause-any_moment g c = λ tells rs at.
    let e = engine_of g.N.Node g.N.ScriptNode.planned rs _ _ _ _ c.self.view_is at in
    compact_moments g.N.Node g.N.ScriptNode.planned rs e.on.stored.follow g.D.Disk.moment g.D.Disk.may_leave g.D.Disk.left_since _ _ e.full (c.rewrite.ensures.any_moment tells rs e.on)

pub returns-in-Err-clause-failed : goal.returns-in-Err-clause-failed
returns-in-Err-clause-failed g c = λ tells rs at.
    let e = engine_of g.N.Node g.N.ScriptNode.planned rs _ _ _ _ c.self.view_is at in
    rewrite_failed (λ (done : Unit {0}). IsOn (staying rs) (g.D.Disk.seen c.rewrite.new.disk) (g.D.Disk.may_leave c.rewrite.new.disk) c.rewrite.new.self)
    c.in-Err.fault c.from.result c.from.ensures (c.in-Err.ensures.rewritten tells rs e.on)

-- ---- it is

pub returns-clause-compacted : goal.returns-clause-compacted
returns-clause-compacted g c = λ tells rs at.
    let e = engine_of g.N.Node g.N.ScriptNode.planned rs _ _ _ _ c.self.view_is at in
    engine_staying g.N.Node g.N.ScriptNode.planned rs e.on.stored.follow _ _ _ _ _ _ _ _ e (c.in_default.ensures.rewritten tells rs e.on)

pub returns-clause-any_moment : goal.returns-clause-any_moment
returns-clause-any_moment g c = λ tells rs at.
    let e = engine_of g.N.Node g.N.ScriptNode.planned rs _ _ _ _ c.self.view_is at in
    compact_moments g.N.Node g.N.ScriptNode.planned rs e.on.stored.follow g.D.Disk.moment g.D.Disk.may_leave g.D.Disk.left_since _ _ e.full (c.rewrite.ensures.any_moment tells rs e.on)

pub returns-clause-switched : goal.returns-clause-switched
returns-clause-switched g c = λ tells rs at run head.
    let e = engine_of g.N.Node g.N.ScriptNode.planned rs _ _ _ _ c.self.view_is at in
    c.in_default.ensures.switched tells rs e.on run head
