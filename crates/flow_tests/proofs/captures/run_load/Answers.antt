use Rattle.std.proofs.Common.{◌∙◌, []}
use Rattle.flow_tests.proofs.captures.run_load.Goals as goal

pub returns : goal.returns
returns g c =
    let loaded = c.in_ok-load.ensures in
    let ran = c.in_ok-run.ensures in
    let gathered = c.effects_are_gathered.ensures.loaded c.args.net.now c.load.new.self c.requires.none loaded.gathers in
    record {
      loaded = record {
        plans = ran.goes.plans ∙ loaded.plans;
        specs = ran.goes.specs ∙ loaded.specs;
        lives = ran.whole.kept;
      };
      rest = ran.rest;
      gathered = c.effects_are_gathered.ensures.moved [] c.load.new.self c.run.new.self gathered ran.goes.gathers;
      unspent = ran.unspent;
    }
