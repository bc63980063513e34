use Rattle.std.proofs.Common.{◌≡◌, refl, sym, ap, ◌∙◌, map, arith}
use Rattle.task_run.specs.Lives.{effects_of}
use Rattle.task_run.specs.Plans.{graph_of}
use Rattle.sample_points.specs.Samples.{samples}
use Rattle.sample_replay.specs.Summaries.{HasCounted, summary_of}
use Rattle.sample_replay.proofs.CountLaws.{summed}
use Rattle.sample_replay.proofs.RecordLaws.{samples_count, samples_none}
use Rattle.sample_replay.proofs.summaries.summarize.Goals as goal

pub running-init : goal.running-init
running-init g c = rw c.in_ok-run.ensures (record {
  within = omega arith;
  spent = refl;
  lives = refl;
  points = sym samples_none;
  counted = c.new-counts.ensures c.args.names.now;
})

pub running-preserved : goal.running-preserved
running-preserved g c =
    let before = c.running.invariant in
    let on = c.in_ok-run_samples.ensures in
    record {
      within = let low = c.min-next.ensures in grind arith;
      spent = on.spent;
      lives = on.lives ∙ before.lives;
      points = on.points;
      counted = on.counted;
    }

pub returns-clause-text : goal.returns-clause-text
returns-clause-text g c =
    let node = g.N.Node in
    let names = c.args.names.now in
    let lives = map (graph_of node.spec) c.args.plans.items in
    let on = c.running.invariant in
    let last : c.running.done ≡ c.args.count = let low = on.within in let end = c.running-test.false in omega arith in
    let effects = effects_of node.answer lives (samples c.args.count) in
    let counted : HasCounted names effects c.running.counts.points c.running.counts.bytes c.running.counts.topics = rw (on.lives, on.points, last) at on.counted in
    summed names effects c.args.count c.running.counts.points c.running.counts.bytes c.count-alerts.result c.running.counts.topics c.in_ok-text.text counted c.count-alerts.ensures c.if-alerts.false c.in_ok-text.ensures
    ∙ ap (λ n. summary_of names n effects) (sym (samples_count c.args.count))

pub returns-clause-net : goal.returns-clause-net
returns-clause-net g c =
    let on = c.running.invariant in
    let last : c.running.done ≡ c.args.count = let low = on.within in let end = c.running-test.false in omega arith in
    rw (on.lives, on.points, last) at c.into_net.ensures.carried
