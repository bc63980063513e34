use Rattle.topic_core.proofs.KeptLaws.{none_kept, one_value, transitions_stand}
use Rattle.topic_core.proofs.laws.kept_laws.Goals as goal

pub returns : goal.returns
returns c = record {
  one = λ events kept stands. one_value events kept stands;
  stands = λ events. transitions_stand events;
  none = λ kept stands. none_kept kept stands;
}
