use Rattle.topic_core.proofs.EventLaws.{stand, stood, trans_again}
use Rattle.topic_core.proofs.laws.transition_laws.Goals as goal

pub returns : goal.returns
returns c = record {
  again = λ events. trans_again events;
  stand = λ events kept stands. stand events kept stands;
  stood = λ events kept stands. stood events kept stands;
}
