use Rattle.std.proofs.Common.{refl}
use Rattle.lambda_types.specs.Functions.{function_named}
use Rattle.eval_node.proofs.laws.examples_of_evals.Goals as goal

pub returns-clause-fault_is_dropped : goal.returns-clause-fault_is_dropped
unfolding function_named
returns-clause-fault_is_dropped c = refl

pub returns-clause-later_are_not_evaluated : goal.returns-clause-later_are_not_evaluated
unfolding function_named
returns-clause-later_are_not_evaluated c = refl

pub returns-clause-results_alone : goal.returns-clause-results_alone
returns-clause-results_alone c = refl

pub returns-clause-keep_all : goal.returns-clause-keep_all
returns-clause-keep_all c = refl

pub returns-clause-keep_names : goal.returns-clause-keep_names
returns-clause-keep_names c = refl
