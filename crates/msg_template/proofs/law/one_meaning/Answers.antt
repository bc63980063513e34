use Rattle.msg_template.proofs.UniqueLaws.{one_reading, one_fault, no_fault}
use Rattle.msg_template.proofs.law.one_meaning.Goals as goal

pub returns : goal.returns
returns c = record {
  parts = λ of_id text ps qs one other. one_reading one qs other;
  fault = λ of_id text at f g one other. one_fault one g other;
  apart = λ of_id text at ps f reads refuses. no_fault reads at f refuses;
}
