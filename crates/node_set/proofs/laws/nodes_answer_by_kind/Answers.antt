use Rattle.node_set.specs.Seats.{spec_sits}
use Rattle.node_set.proofs.SaysLaws.{answers, ports, takes}
use Rattle.node_set.proofs.laws.nodes_answer_by_kind.Goals as goal

pub returns : goal.returns
returns c = record {
  answer = answers;
  life = λ task life number name count spec. (spec_sits task life number name count spec).life_is;
  number = λ task life number name count spec. (spec_sits task life number name count spec).number_is;
  ports = ports;
  takes = takes;
}
