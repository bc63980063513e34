use Rattle.topic_core.proofs.TreeLaws.{Copied}
use Rattle.topic_core.proofs.text_tree.copy_of.Given as goal

abbrev pub invariant-copying : goal.invariant-copying
invariant-copying g l = Copied l.tree.entries l.copy.entries l.key-iterator
