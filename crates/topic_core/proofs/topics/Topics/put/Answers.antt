use Rattle.topic_core.proofs.TransLaws.{put_stands}
use Rattle.topic_core.proofs.topics.Topics.put.Goals as goal

pub returns-clause-stands : goal.returns-clause-stands
returns-clause-stands c events s differs = put_stands events c.args.transition.now c.args.self.now s differs c.keep.new.self c.keep.result c.keep.ensures.ok
