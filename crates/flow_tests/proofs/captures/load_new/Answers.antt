use Rattle.std.proofs.Common.{subst}
use Rattle.flow_core.specs.Making.{AreLivesOf}
use Rattle.flow_tests.proofs.captures.load_new.Goals as goal

pub returns : goal.returns
returns g c =
    let node = g.N.Node in
    let net = c.in_ok-net.net in
    let made = c.in_ok-net.ensures in
    let loaded = c.in_ok-load.ensures in
    record {
      made = net.lives;
      are = subst (λ plans. AreLivesOf node plans net.lives) c.in_ok-plans.ensures.items made.lives;
      plans = loaded.plans;
      specs = loaded.specs;
      gathered = c.effects_are_gathered.ensures.loaded net c.load.new.self made.gathered loaded.gathers;
      there = loaded.last;
      unspent = loaded.unspent;
    }
