use Rattle.kap_server.proofs.BesideLaws.{joined_more}
use Rattle.kap_server.proofs.parts.join_parts.Goals as goal

pub joining-preserved : goal.joining-preserved
joining-preserved g c = record {
  unspent = c.join_nets.ensures.spent;
  joined = joined_more g.N.Node (λ part. part.run) c.joining.yielded c.in-Some.part c.args.net.now c.joining.net c.join_nets.new.net c.net_of.result
      c.joining.invariant.joined c.net_of.ensures.carried c.net_of.ensures.room c.in_ok-join_nets.ensures.carried c.in_ok-join_nets.ensures.room;
}
