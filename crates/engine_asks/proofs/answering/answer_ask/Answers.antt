use Rattle.std.proofs.Common.{ℤ, subst}
use Rattle.std.specs.Int.{w64}
use Rattle.std.proofs.lemmas.Int.{to_z-of_z}
use Rattle.kap_io.specs.Moments.{Moments, weaker}
use Rattle.engine_asks.specs.Nexts.{IsNext, before_or_next}
use Rattle.engine_asks.specs.Replies.{IsReplyOrFailed, WouldChange}
use Rattle.engine_asks.proofs.AskLaws.{asked_script}
use Rattle.engine_asks.proofs.CountLaws.{changes_exact, is_counted, next_counted}
use Rattle.engine_asks.proofs.answering.answer_ask.Goals as goal

pub returns-clause-next : goal.returns-clause-next
returns-clause-next g c = λ tells rs at told.
    subst (λ (t : ℤ). IsNext g.N.Node g.N.ScriptNode.planned rs at.full.good.tasks c.args.engine.now.stored (g.D.Disk.seen c.answer.new.disk) (g.D.Disk.may_leave c.answer.new.disk) c.answer.new.engine c.args.ask.now t c.answer.result.status)
    (to_z-of_z w64 c.args.now c.ranges.now) (c.answer.ensures.next tells rs at told)

pub returns-clause-reply : goal.returns-clause-reply
returns-clause-reply g c =
    subst (λ (t : ℤ). IsReplyOrFailed (g.P.Patterns.refusals c.args.pats.now) (g.P.Patterns.refusals c.answer.new.pats) (g.P.Patterns.refused c.answer.new.pats) c.args.engine.now.store.kept.tasks c.args.engine.now.run.topics t c.args.ask.now c.answer.result)
    (to_z-of_z w64 c.args.now c.ranges.now) c.answer.ensures.reply

pub returns-clause-instead : goal.returns-clause-instead
returns-clause-instead g c = λ is.
    subst (λ (t : ℤ). WouldChange (g.P.Patterns.refusals c.args.pats.now) (g.P.Patterns.refusals c.answer.new.pats) (g.P.Patterns.refused c.answer.new.pats) c.args.engine.now.store.kept.tasks c.args.engine.now.run.topics t c.args.ask.now)
    (to_z-of_z w64 c.args.now c.ranges.now) (c.answer.ensures.instead is)

pub returns-clause-cause : goal.returns-clause-cause
returns-clause-cause g c = λ tells rs at.
    c.answer.ensures.any_cause (asked_script g.N.Node g.N.ScriptNode.planned rs _ _ c.args.engine.now c.args.ask.now at)

pub returns-clause-changes : goal.returns-clause-changes
returns-clause-changes g c = λ tells rs at told.
    is_counted g.N.Node g.N.ScriptNode.planned rs at.full.good.tasks c.args.engine.now.stored (g.D.Disk.seen c.answer.new.disk) (g.D.Disk.may_leave c.answer.new.disk) c.answer.new.engine
    c.args.ask.now _ c.answer.result.status (c.answer.ensures.next tells rs at told)

pub returns-clause-exact : goal.returns-clause-exact
returns-clause-exact g c = λ tells rs at told.
    let tasks = at.full.good.tasks in
    let stored = c.args.engine.now.stored in
    let seen = g.D.Disk.seen c.answer.new.disk in
    let images = g.D.Disk.may_leave c.answer.new.disk in
    changes_exact g.N.Node g.N.ScriptNode.planned rs tasks stored seen images c.answer.new.engine
    c.args.engine.now.store.kept c.args.ask.now c.answer.result.status at.on.kept.keeps.changes
    (is_counted g.N.Node g.N.ScriptNode.planned rs tasks stored seen images c.answer.new.engine c.args.ask.now _ c.answer.result.status (c.answer.ensures.next tells rs at told))

pub returns-clause-any_count : goal.returns-clause-any_count
returns-clause-any_count g c = λ tells rs at.
    weaker g.D.Disk.moment g.D.Disk.may_leave g.D.Disk.left_since _ _ _ _ (c.answer.ensures.any_moment tells rs at)
    (λ a b was how. next_counted g.N.Node g.N.ScriptNode.planned rs a b c.args.ask.now _ how)

pub returns-clause-any_moment : goal.returns-clause-any_moment
returns-clause-any_moment g c = λ tells rs at.
    subst (λ (t : ℤ). Moments g.D.Disk.moment g.D.Disk.may_leave g.D.Disk.left_since c.args.disk.now c.answer.new.disk (before_or_next g.N.Node g.N.ScriptNode.planned rs c.args.ask.now t))
    (to_z-of_z w64 c.args.now c.ranges.now) (c.answer.ensures.any_moment tells rs at)
