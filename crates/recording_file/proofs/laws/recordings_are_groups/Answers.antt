use Rattle.recording_file.proofs.RecordLaws.{recorded, is_recording}
use Rattle.recording_file.proofs.laws.recordings_are_groups.Goals as goal

pub returns : goal.returns
returns c = λ bytes points. (recorded bytes points, is_recording bytes points)
