use Rattle.std.proofs.Common.{◌∙◌, []}
use Rattle.flow_tests.proofs.captures.stop_at_rest.Goals as goal

pub returns-clause-stopped : goal.returns-clause-stopped
returns-clause-stopped g c =
    let e = c.in_ok-net.ensures in
    let ran = c.in_ok-run.ensures in
    record {
      made = e.made;
      are = e.are;
      loaded = record {
        plans = ran.goes.plans ∙ e.plans;
        specs = ran.goes.specs ∙ e.specs;
        lives = ran.whole.kept;
      };
      capture = c.in_ok-bytes.ensures.capture;
      gathered = c.effects_are_gathered.ensures.moved [] c.in_ok-net.net c.run.new.self e.gathered ran.goes.gathers;
      unspent = ran.unspent;
    }

pub returns-clause-last : goal.returns-clause-last
returns-clause-last g c = c.in_ok-run.ensures.goes.last ∙ c.in_ok-net.ensures.there
