use Rattle.std.proofs.Common.{arith}
use Rattle.std.proofs.lemmas.Grind.{common_steps}
use Rattle.sample_points.specs.Samples.{sample_of}
use Rattle.sample_points.proofs.SampleLaws.{point_is_sample}
use Rattle.sample_points.proofs.samples.sample_point.Goals as goal

pub invariant_of-result : goal.invariant_of-result
unfolding sample_of
invariant_of-result c = point_is_sample c.args.number _ (grind (arith, common_steps)) c.requires
