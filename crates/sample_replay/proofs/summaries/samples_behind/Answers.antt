use Rattle.std.proofs.Common.{◌+◌, ◌++◌, [], ◌∷◌, ap, sym, ◌∙◌, append_assoc, arith}
use Rattle.sample_points.specs.Samples.{sample_of, samples}
use Rattle.sample_replay.proofs.RecordLaws.{samples_next}
use Rattle.sample_replay.proofs.summaries.samples_behind.Goals as goal

pub sampling-preserved : goal.sampling-preserved
sampling-preserved c =
    let n = c.sampling.number in
    let point_is = sample_of (n + 1) in
    let before = c.sampling.invariant in
    record {
      after = let low = before.after in omega arith;
      within = let more = c.sampling-test.true in omega arith;
      points = samples_next n ∙ ap (λ l. l ++ point_is ∷ []) before.points ∙ append_assoc (samples c.args.from) c.sampling.points.items (point_is ∷ [])
          ∙ ap (λ l. samples c.args.from ++ l) (sym (rw (c.in_ok-point.ensures, c.in_ok-sample_point.ensures) at c.in_ok-push.ensures.items));
    }
