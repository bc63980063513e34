use Rattle.recording_file.proofs.PrefixLaws.{goes_on}
use Rattle.recording_file.proofs.laws.readings_go_on.Goals as goal

pub returns : goal.returns
returns c = goes_on
