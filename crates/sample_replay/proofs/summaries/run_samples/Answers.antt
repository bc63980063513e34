use Rattle.std.proofs.Common.{◌≡◌, ◌++◌, ◌-◌, length, length-append, refl, sym, ap, ◌∙◌, arith}
use Rattle.std.proofs.lemmas.List.{append_cancel_left}
use Rattle.task_run.specs.Lives.{effects_of}
use Rattle.sample_points.specs.Samples.{samples}
use Rattle.sample_replay.proofs.RecordLaws.{samples_count}
use Rattle.sample_replay.proofs.summaries.run_samples.Goals as goal

pub returns-clause-points : goal.returns-clause-points
returns-clause-points g c = c.in_ok-ran.ensures.points ∙ ap (λ l. l ++ c.in_ok-points.points.items) c.requires.points ∙ sym c.in_ok-points.ensures

pub returns-clause-counted : goal.returns-clause-counted
returns-clause-counted g c =
    let node = g.N.Node in
    let lives = c.args.run.now.lives in
    let points = c.args.run.now.points in
    rw (c.in_ok-ran.ensures.lives, c.in_ok-ran.ensures.points, c.in_ok-ran.ensures.effects)
    (rw c.as_slice.ensures at c.in_ok-count.ensures.counted (effects_of node.answer lives points) c.requires.counted)

pub returns-clause-pace : goal.returns-clause-pace
returns-clause-pace g c = λ effects on.
    let node = g.N.Node in
    let lives = c.args.run.now.lives in
    let points = c.args.run.now.points in
    let new = c.in_ok-points.points.items in
    let same : c.in_ok-ran.ran.0 ≡ effects =
    append_cancel_left (effects_of node.answer lives points) c.in_ok-ran.ran.0 effects
    (sym c.in_ok-ran.ensures.effects ∙ ap (effects_of node.answer lives) (sym c.in_ok-ran.ensures.points) ∙ on) in
    let few : c.len-few.result ≡ c.args.to - c.args.from =
    omega (arith, c.len-few.ensures, samples_count c.args.to, samples_count c.args.from, ap length c.in_ok-points.ensures, length-append (samples c.args.from) new) in
    let bytes : c.len-2.result ≡ c.count.new.counts.bytes - c.args.counts.now.bytes = omega (arith, c.len-2.ensures, c.in_ok-count.ensures.bytes) in
    rw (c.follow.ensures, few, c.len.ensures ∙ ap length same, bytes) refl
