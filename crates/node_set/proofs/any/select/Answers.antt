use Rattle.std.proofs.Common.{ap}
use Rattle.node_core.specs.declared.both.Both.TheVariants.{Other}
use Rattle.node_set.proofs.any.select.Goals as goal

pub returns : goal.returns
returns c = record { spec_is = ap (λ s. Other (Other (Other (Other s)))) c.plain_node.ensures.spec; state_is = ap (λ s. Other (Other (Other (Other s)))) c.plain_node.ensures.first }
