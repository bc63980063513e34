use Rattle.alert_node.proofs.CountLaws.{count_is}
use Rattle.alert_node.proofs.laws.counts_are_evaluations.Goals as goal

pub returns : goal.returns
returns c = λ alert ask points e. count_is alert ask points e
