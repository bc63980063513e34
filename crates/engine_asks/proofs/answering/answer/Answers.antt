use Rattle.std.proofs.Common.{◌≡◌, ℤ, sym, subst}
use Rattle.std.specs.Int.{w64}
use Rattle.std.proofs.lemmas.Int.{to_z-of_z}
use Rattle.kap_http.specs.declared.ask.Ask.{Ask}
use Rattle.kap_io.specs.Moments.{Moments}
use Rattle.reply_bodies.specs.Bodies.{done_reply}
use Rattle.engine_asks.specs.Nexts.{HasPointsOf, IsNext, before_or_next, before_or_written}
use Rattle.engine_asks.specs.Replies.{HasScript, IsReplyOrFailed, WouldChange, points_asked, reply_to_lines}
use Rattle.engine_asks.proofs.AskLaws.{act_instead, define_instead, write_instead}
use Rattle.engine_asks.proofs.NextLaws.{next_if, stays_same}
use Rattle.engine_asks.proofs.answering.answer.Goals as goal

pub returns-in-Write-clause-next : goal.returns-in-Write-clause-next
returns-in-Write-clause-next g c = λ tells rs at told.
    let tasks = at.full.good.tasks in
    let stored = c.args.engine.now.stored in
    let seen = g.D.Disk.seen c.write.new.disk in
    let images = g.D.Disk.may_leave c.write.new.disk in
    let status = c.write.result.status in
    subst (λ (ask : Ask). IsNext g.N.Node g.N.ScriptNode.planned rs tasks stored seen images c.write.new.engine ask c.args.now status) (sym c.in-Write.is)
    (next_if g.N.Node g.N.ScriptNode.planned rs tasks stored seen images c.write.new.engine _ c.args.now status
    (λ done. subst (λ (t : ℤ). HasPointsOf g.N.Node g.N.ScriptNode.planned rs tasks (points_asked c.in-Write.ask t) seen images c.write.new.engine) (to_z-of_z w64 c.args.now c.ranges.now) (c.write.ensures.next tells rs at done))
    (λ refused. stays_same g.N.Node g.N.ScriptNode.planned rs g.D.Disk.seen g.D.Disk.may_leave c.args.disk.now c.write.new.disk c.args.engine.now c.write.new.engine at (c.write.ensures.still refused told)))

pub returns-in-Task-clause-next : goal.returns-in-Task-clause-next
returns-in-Task-clause-next g c = λ tells rs at told.
    let tasks = at.full.good.tasks in
    let stored = c.args.engine.now.stored in
    let seen = g.D.Disk.seen c.act.new.disk in
    let images = g.D.Disk.may_leave c.act.new.disk in
    let status = c.act.result.status in
    subst (λ (ask : Ask). IsNext g.N.Node g.N.ScriptNode.planned rs tasks stored seen images c.act.new.engine ask c.args.now status) (sym c.in-Task.is)
    (next_if g.N.Node g.N.ScriptNode.planned rs tasks stored seen images c.act.new.engine _ c.args.now status
    (λ done. c.act.ensures.next tells rs at done)
    (λ refused. stays_same g.N.Node g.N.ScriptNode.planned rs g.D.Disk.seen g.D.Disk.may_leave c.args.disk.now c.act.new.disk c.args.engine.now c.act.new.engine at (c.act.ensures.still refused told)))

pub returns-in-Define-clause-reply : goal.returns-in-Define-clause-reply
returns-in-Define-clause-reply g c =
    subst (λ (ask : Ask). IsReplyOrFailed (g.P.Patterns.refusals c.args.pats.now) (g.P.Patterns.refusals c.define.new.pats) (g.P.Patterns.refused c.define.new.pats) c.args.engine.now.store.kept.tasks c.args.engine.now.run.topics c.args.now ask c.define.result) (sym c.in-Define.is)
    c.define.ensures.reply

pub returns-in-Write-clause-any_moment : goal.returns-in-Write-clause-any_moment
returns-in-Write-clause-any_moment g c = λ tells rs at.
    subst (λ (ask : Ask). Moments g.D.Disk.moment g.D.Disk.may_leave g.D.Disk.left_since c.args.disk.now c.write.new.disk (before_or_next g.N.Node g.N.ScriptNode.planned rs ask c.args.now)) (sym c.in-Write.is)
    (subst (λ (t : ℤ). Moments g.D.Disk.moment g.D.Disk.may_leave g.D.Disk.left_since c.args.disk.now c.write.new.disk (before_or_written g.N.Node g.N.ScriptNode.planned rs c.in-Write.ask t)) (to_z-of_z w64 c.args.now c.ranges.now)
    (c.write.ensures.any_moment tells rs at))

pub returns-in-Define-clause-any_moment : goal.returns-in-Define-clause-any_moment
returns-in-Define-clause-any_moment g c = λ tells rs at.
    subst (λ (ask : Ask). Moments g.D.Disk.moment g.D.Disk.may_leave g.D.Disk.left_since c.args.disk.now c.define.new.disk (before_or_next g.N.Node g.N.ScriptNode.planned rs ask c.args.now)) (sym c.in-Define.is)
    (c.define.ensures.any_moment tells rs at)

pub returns-in-Task-clause-any_moment : goal.returns-in-Task-clause-any_moment
returns-in-Task-clause-any_moment g c = λ tells rs at.
    subst (λ (ask : Ask). Moments g.D.Disk.moment g.D.Disk.may_leave g.D.Disk.left_since c.args.disk.now c.act.new.disk (before_or_next g.N.Node g.N.ScriptNode.planned rs ask c.args.now)) (sym c.in-Task.is)
    (c.act.ensures.any_moment tells rs at)

-- ---- 500 in place of a change

pub returns-in-Write-clause-instead : goal.returns-in-Write-clause-instead
returns-in-Write-clause-instead g c = λ is.
    let before = g.P.Patterns.refusals c.args.pats.now in
    let after = g.P.Patterns.refusals c.args.pats.now in
    let refused = g.P.Patterns.refused c.args.pats.now in
    let tasks = c.args.engine.now.store.kept.tasks in
    let topics = c.args.engine.now.run.topics in
    let due = subst (λ (t : ℤ). reply_to_lines (points_asked c.in-Write.ask t) ≡ done_reply) (to_z-of_z w64 c.args.now c.ranges.now) (c.write.ensures.instead is) in
    subst (λ (ask : Ask). WouldChange before after refused tasks topics c.args.now ask) (sym c.in-Write.is) (write_instead before after refused tasks topics c.args.now c.in-Write.ask due)

pub returns-in-Define-clause-instead : goal.returns-in-Define-clause-instead
returns-in-Define-clause-instead g c = λ is.
    let before = g.P.Patterns.refusals c.args.pats.now in
    let after = g.P.Patterns.refusals c.define.new.pats in
    let refused = g.P.Patterns.refused c.define.new.pats in
    let tasks = c.args.engine.now.store.kept.tasks in
    let topics = c.args.engine.now.run.topics in
    subst (λ (ask : Ask). WouldChange before after refused tasks topics c.args.now ask) (sym c.in-Define.is) (define_instead before after refused tasks topics c.args.now c.in-Define.ask (c.define.ensures.instead is))

pub returns-in-Task-clause-instead : goal.returns-in-Task-clause-instead
returns-in-Task-clause-instead g c = λ is.
    let before = g.P.Patterns.refusals c.args.pats.now in
    let after = g.P.Patterns.refusals c.act.new.pats in
    let refused = g.P.Patterns.refused c.act.new.pats in
    let tasks = c.args.engine.now.store.kept.tasks in
    let topics = c.args.engine.now.run.topics in
    subst (λ (ask : Ask). WouldChange before after refused tasks topics c.args.now ask) (sym c.in-Task.is) (act_instead before after refused tasks topics c.args.now c.in-Task.ask (c.act.ensures.instead is))

pub returns-in-Task-clause-any_cause : goal.returns-in-Task-clause-any_cause
returns-in-Task-clause-any_cause g c = λ script.
    c.act.ensures.any_cause (subst (λ (ask : Ask). HasScript c.args.engine.now.store.kept.tasks ask) c.in-Task.is script)
