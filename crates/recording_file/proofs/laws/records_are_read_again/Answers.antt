use Rattle.recording_file.proofs.PrintLaws.{records_again}
use Rattle.recording_file.proofs.laws.records_are_read_again.Goals as goal

pub returns : goal.returns
returns c = records_again
