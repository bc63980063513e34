use Rattle.std.proofs.Common.{◌+◌, ℕ, ap, subst, sym, ◌∙◌}
use Rattle.reply_bodies.specs.Asks.{change_of}
use Rattle.kap_service.proofs.StoreLaws.{answered_again}
use Rattle.kap_service.proofs.judged.judged.Goals as goal

pub returns-clause-exact : goal.returns-clause-exact
returns-clause-exact g c right fine =
    c.decide.ensures.exact (c.ready.ensures.right right) fine
    ∙ ap (λ (n : ℕ). n + change_of c.args.ask.now c.decide.result.reply.status) (sym c.decide.ensures.on)

pub returns-clause-stores : goal.returns-clause-stores
returns-clause-stores g c right store left =
    answered_again (g.E.Engine.value c.args.engine.now).spent c.args.ask.now c.decide.result.reply.status
    (g.E.Engine.value c.decide.new.engine).own (g.E.Engine.leaves c.args.engine.now)
    (g.E.Engine.leaves c.ready.new.engine) store (c.ready.ensures.stores right)
    (λ e s was. subst (λ x. g.E.Engine.leaves x s) (c.ready.ensures.still e) was)
    (c.decide.ensures.stores (c.ready.ensures.right right) store left)
