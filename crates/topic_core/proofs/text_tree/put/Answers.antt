use Rattle.topic_core.proofs.TreeLaws.{inserted}
use Rattle.topic_core.proofs.text_tree.put.Goals as goal

pub returns-clause-ok : goal.returns-clause-ok
returns-clause-ok g c = inserted c.args.tree.now.entries c.insert.new.self.entries c.args.key c.args.value c.in_ok-insert.ensures.updates.0
