use Rattle.std.proofs.Common.{ap}
use Rattle.node_core.specs.declared.both.Both.TheVariants.{One, Other}
use Rattle.node_set.proofs.any.edge_window.Goals as goal

pub returns : goal.returns
returns c = record { spec_is = ap (λ s. Other (One (One (One s)))) c.rule_node.ensures.spec; state_is = ap (λ s. Other (One (One (One s)))) c.rule_node.ensures.first }
