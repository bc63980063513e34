use Rattle.eval_node.proofs.CountLaws.{count_is}
use Rattle.eval_node.proofs.laws.counts_are_evaluations.Goals as goal

pub returns : goal.returns
returns c = λ eval place points. count_is eval place points
