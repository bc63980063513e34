use Rattle.std.proofs.Common.{append_assoc, length-append, arith}
use Rattle.kap_base.specs.declared.items.What.{What}
use Rattle.node_core.proofs.Loops.{effects_from-more}
use Rattle.node_core.proofs.numbered.give_more_effects.Goals as goal

pub giving-preserved : goal.giving-preserved
giving-preserved c = record {
  given = rw (effects_from-more c.args.life c.args.node c.args.stamp c.args.seq c.giving.next c.giving.yielded c.in-Some.what c.giving.invariant.next, ← append_assoc, ← c.giving.invariant.given) c.in_ok-push.ensures.ok;
  next = omega (arith, length-append {A = What});
}
