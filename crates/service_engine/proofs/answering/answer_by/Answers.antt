use Rattle.std.proofs.Common.{inl, inr, ⊎_elim, Some, ℤ, refl, subst}
use Rattle.std.specs.Int.{w64}
use Rattle.std.proofs.lemmas.Int.{to_z-of_z}
use Rattle.engine_asks.specs.Replies.{IsReply}
use Rattle.service_engine.specs.Engines.{HasAnswered}
use Rattle.service_engine.proofs.AnswerLaws.{decided, each_counted, failed_or_not, over_next}
use Rattle.service_engine.proofs.answering.answer_by.Goals as goal

pub returns-clause-due : goal.returns-clause-due
returns-clause-due g c =
    let e = c.args.engine.now in
    let before = g.P.Patterns.refusals c.args.pats.now in
    let after = g.P.Patterns.refusals c.answer_ask.new.pats in
    let refused = g.P.Patterns.refused c.answer_ask.new.pats in
    ⊎_elim
    (λ due. inl (
      before,
      after,
      refused,
      subst (λ (t : ℤ). IsReply before after refused e.store.kept.tasks e.run.topics t c.args.ask.now c.answer_ask.result)
          (to_z-of_z w64 c.args.now c.ranges.now) due,
    ))
    (λ failed. inr failed) c.answer_ask.ensures.reply

pub returns-clause-next : goal.returns-clause-next
returns-clause-next g c =
    subst
    (λ (t : ℤ). HasAnswered g.N.Node g.N.ScriptNode.planned g.D.Disk.tells g.D.Disk.seen g.D.Disk.moment
    g.D.Disk.may_leave g.D.Disk.left_since c.args.disk.now c.answer_ask.new.disk (g.P.Patterns.refusals c.args.pats.now)
    (g.P.Patterns.refusals c.answer_ask.new.pats) (g.P.Patterns.refused c.answer_ask.new.pats) c.args.engine.now
    (Some c.answer_ask.new.engine) c.args.ask.now t c.answer_ask.result)
    (to_z-of_z w64 c.args.now c.ranges.now)
    (record {
      due = c.answer_ask.ensures.reply;
      next = λ tells rs at fine. (c.answer_ask.new.engine, refl, c.answer_ask.ensures.next tells rs at fine);
      any_moment = c.answer_ask.ensures.any_moment;
    })

pub returns-clause-cause : goal.returns-clause-cause
returns-clause-cause g c = λ r is.
    let o = r.over c.requires.unspent in
    c.answer_ask.ensures.cause r.told o.records o.engine is

pub returns-clause-each : goal.returns-clause-each
returns-clause-each g c = λ r.
    let o = r.over c.requires.unspent in
    each_counted g.N.Node g.N.ScriptNode.planned o.records (g.D.Disk.may_leave c.args.disk.now)
    (g.D.Disk.may_leave c.answer_ask.new.disk) c.args.ask.now
    (c.answer_ask.ensures.any_count r.told o.records o.engine).now

pub returns-clause-over : goal.returns-clause-over
returns-clause-over g c = λ r fine.
    let o = r.over c.requires.unspent in
    over_next g.N.Node g.N.ScriptNode.planned o.records o.engine.full.good.tasks c.args.engine.now.stored
    (g.D.Disk.seen c.answer_ask.new.disk) (g.D.Disk.may_leave c.answer_ask.new.disk) c.answer_ask.new.engine
    (o.before, o.last) c.args.ask.now _ c.answer_ask.result.status
    (c.answer_ask.ensures.next r.told o.records o.engine fine)

pub returns-clause-stores : goal.returns-clause-stores
returns-clause-stores g c = λ r.
    let o = r.over c.requires.unspent in
    decided g.N.Node g.N.ScriptNode.planned o.records (g.D.Disk.seen c.args.disk.now)
    (g.D.Disk.seen c.answer_ask.new.disk) (g.D.Disk.may_leave c.args.disk.now)
    (g.D.Disk.may_leave c.answer_ask.new.disk) c.args.engine.now c.answer_ask.new.engine c.args.ask.now
    c.answer_ask.result.status o.engine (g.met.D.Disk.reads_as c.args.disk.now r.told)
    (c.answer_ask.ensures.any_count r.told o.records o.engine).now
    (λ fine. c.answer_ask.ensures.changes r.told o.records o.engine fine) (failed_or_not c.answer_ask.result.status)
