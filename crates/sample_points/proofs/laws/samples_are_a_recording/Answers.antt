use Rattle.sample_points.proofs.SampleLaws.{samples_again}
use Rattle.sample_points.proofs.laws.samples_are_a_recording.Goals as goal

pub returns : goal.returns
returns c = samples_again
