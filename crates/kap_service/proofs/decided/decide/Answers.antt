use Rattle.kap_service.proofs.StoreLaws.{counted_exactly}
use Rattle.kap_service.proofs.decided.decide.Goals as goal

pub returns-clause-exact : goal.returns-clause-exact
returns-clause-exact g c = λ right fine.
    counted_exactly g.E.Engine.value g.E.Engine.right g.E.Engine.leaves g.met.E.Engine.some g.met.E.Engine.counts
    c.args.engine.now c.reply-reply.new.self c.args.ask.now c.reply-reply.result.status
    (g.E.Engine.value c.reply-reply.new.self).own right (c.reply-reply.ensures.right right) c.requires.unspent
    (c.reply-reply.ensures.usable fine) (c.reply-reply.ensures.stores right) fine

pub invariant_of-result : goal.invariant_of-result
invariant_of-result g c = record {
  engine = c.args.engine.now;
  behind = c.reply-reply.new.self;
  changes = c.changes-changes.ensures;
  reply = c.reply-reply.ensures.due;
  next = c.reply-reply.ensures.next;
}
