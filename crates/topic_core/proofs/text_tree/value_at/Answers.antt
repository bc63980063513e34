use Rattle.std.proofs.Common.{sym, ◌∙◌}
use Rattle.topic_core.proofs.TreeLaws.{got}
use Rattle.topic_core.proofs.text_tree.value_at.Goals as goal

pub returns : goal.returns
returns g c = c.get.ensures.value ∙ sym (got c.args.tree.now.entries c.args.key.now)
