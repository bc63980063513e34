use Rattle.std.proofs.Common.{sym, ap, ◌∙◌}
use Rattle.std.specs.FinMap.{entries}
use Rattle.topic_core.proofs.TreeLaws.{entries_are}
use Rattle.topic_core.proofs.text_tree.TextTree.entries.Goals as goal

pub returns : goal.returns
returns g c = c.iter.ensures.rest ∙ sym (ap entries (sym c.self.view_is) ∙ entries_are c.self.inside.tree.entries c.iter.ensures.ordered)
