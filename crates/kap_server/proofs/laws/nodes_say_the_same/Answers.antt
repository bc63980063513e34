use Rattle.std.proofs.Common.{length}
use Rattle.node_set.specs.Says.{says_of}
use Rattle.kap_server.proofs.laws.nodes_say_the_same.Goals as goal

pub returns : goal.returns
returns c = λ task number node. (says_of task node.name node.spec, λ life. c.nodes_answer_by_kind.ensures.answer task life number node.name (length node.parents) node.spec)
