use Rattle.std.proofs.Common.{refl}
use Rattle.kap_base.specs.Times.{trunc}
use Rattle.join_node.proofs.laws.examples_of_joins.Goals as goal

pub returns-clause-late_point : goal.returns-clause-late_point
unfolding trunc
returns-clause-late_point c = refl

pub returns-clause-open_sets : goal.returns-clause-open_sets
unfolding trunc
returns-clause-open_sets c = refl

pub returns-clause-no_fill : goal.returns-clause-no_fill
unfolding trunc
returns-clause-no_fill c = refl
