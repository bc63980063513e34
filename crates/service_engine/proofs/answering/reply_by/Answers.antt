use Rattle.std.proofs.Common.{◌∙◌, Option, Some, ℤ, subst, sym}
use Rattle.std.specs.Int.{w64}
use Rattle.std.proofs.lemmas.Int.{to_z-of_z}
use Rattle.kap_engine.specs.Engines.{EngineValue}
use Rattle.kap_service.specs.Stores.{IsDueReply}
use Rattle.service_engine.specs.Engines.{Follows, HasAnswered, IsDue, IsRight}
use Rattle.service_engine.proofs.AnswerLaws.{kept_answered, kept_own, kept_right}
use Rattle.service_engine.proofs.answering.reply_by.Goals as goal

pub returns-clause-due : goal.returns-clause-due
returns-clause-due g c =
    subst (λ (e : Option (EngineValue g.row.N.Denot)). IsDueReply (IsDue e c.args.ask.now c.args.now) c.answer_by-reply.result)
    (sym c.in-Some.is ∙ c.take.ensures.value)
    (subst (λ (t : ℤ). IsDueReply (IsDue (Some c.in-Some.run') c.args.ask.now t) c.answer_by-reply.result)
    (to_z-of_z w64 c.args.now c.ranges.now) c.answer_by-reply.ensures.due)

pub returns-clause-next : goal.returns-clause-next
returns-clause-next g c =
    let disk = c.args.disk.now in
    let disk' = c.answer_by-reply.new.disk in
    let before = g.P.Patterns.refusals c.args.pats.now in
    let after = g.P.Patterns.refusals c.answer_by-reply.new.pats in
    let refused = g.P.Patterns.refused c.answer_by-reply.new.pats in
    let reply = c.answer_by-reply.result in
    subst
    (λ (e : Option (EngineValue g.row.N.Denot)). Follows g.N.Node g.N.ScriptNode.planned g.D.Disk.tells g.D.Disk.seen
    g.D.Disk.moment g.D.Disk.may_leave g.D.Disk.left_since disk disk' before after refused e c.kept.result c.args.ask.now
    c.args.now reply)
    (sym c.in-Some.is ∙ c.take.ensures.value)
    (kept_answered g.N.Node g.N.ScriptNode.planned g.D.Disk.tells g.D.Disk.seen g.D.Disk.moment g.D.Disk.may_leave
    g.D.Disk.left_since disk disk' before after refused c.in-Some.run' c.answer_by-reply.new.engine c.args.ask.now
    c.args.now reply c.is_failed.result c.is_failed.ensures c.kept.result c.kept.ensures
    (subst (λ (t : ℤ). HasAnswered g.N.Node g.N.ScriptNode.planned g.D.Disk.tells g.D.Disk.seen g.D.Disk.moment
    g.D.Disk.may_leave g.D.Disk.left_since disk disk' before after refused c.in-Some.run'
    (Some c.answer_by-reply.new.engine) c.args.ask.now t reply)
    (to_z-of_z w64 c.args.now c.ranges.now) c.answer_by-reply.ensures.next))

pub returns-clause-right : goal.returns-clause-right
returns-clause-right g c = λ r.
    let at = subst (IsRight g.N.Node g.N.ScriptNode.planned g.D.Disk.tells (g.D.Disk.seen c.args.disk.now) (g.D.Disk.may_leave c.args.disk.now))
    (sym c.take.ensures.value ∙ c.in-Some.is) r in
    kept_right g.N.Node g.N.ScriptNode.planned g.D.Disk.tells (g.D.Disk.seen c.answer_by-reply.new.disk)
    (g.D.Disk.may_leave c.answer_by-reply.new.disk) c.answer_by-reply.new.engine c.answer_by-reply.result.status
    c.is_failed.result c.is_failed.ensures c.kept.result c.kept.ensures r.told (c.answer_by-reply.ensures.each at)
    (c.answer_by-reply.ensures.over at)

pub returns-clause-stores : goal.returns-clause-stores
returns-clause-stores g c = λ r store l.
    let at = subst (IsRight g.N.Node g.N.ScriptNode.planned g.D.Disk.tells (g.D.Disk.seen c.args.disk.now) (g.D.Disk.may_leave c.args.disk.now))
    (sym c.take.ensures.value ∙ c.in-Some.is) r in
    kept_own g.N.Node g.N.ScriptNode.planned g.D.Disk.tells (g.D.Disk.seen c.answer_by-reply.new.disk)
    (g.D.Disk.may_leave c.answer_by-reply.new.disk) c.answer_by-reply.new.engine c.answer_by-reply.result.status
    c.is_failed.result c.is_failed.ensures c.kept.result c.kept.ensures c.args.ask.now _ store
    (c.answer_by-reply.ensures.stores at store l)
