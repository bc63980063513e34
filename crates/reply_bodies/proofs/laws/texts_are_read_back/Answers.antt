use Rattle.reply_bodies.proofs.ReadLaws.{topic_read}
use Rattle.reply_bodies.proofs.laws.texts_are_read_back.Goals as goal

pub returns-clause-topic : goal.returns-clause-topic
returns-clause-topic c name ids = topic_read name ids
