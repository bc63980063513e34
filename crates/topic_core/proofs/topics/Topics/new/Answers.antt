use Rattle.topic_core.proofs.TransLaws.{at_first}
use Rattle.topic_core.proofs.topics.Topics.new.Goals as goal

pub returns : goal.returns
returns c = rw c.new.ensures at_first
