use Rattle.sample_replay.proofs.CountLaws.{counted_none}
use Rattle.sample_replay.proofs.counts.Counts.new.Goals as goal

pub returns : goal.returns
returns c = λ names. counted_none names c.new.result c.new.ensures
