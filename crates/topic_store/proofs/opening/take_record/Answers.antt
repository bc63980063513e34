use Rattle.topic_store.proofs.Reading.{adds}
use Rattle.topic_store.proofs.opening.take_record.Goals as goal

pub returns-clause-adds : goal.returns-clause-adds
returns-clause-adds c rs holds at = adds rs c.args.body.now _ _ c.take_body.result c.requires (c.take_body.ensures.takes rs holds at)
