use Rattle.std.proofs.Common.{refl}
use Rattle.lambda_types.specs.Functions.{function_named}
use Rattle.basic_nodes.proofs.laws.examples_of_points.Goals as goal

pub returns-clause-sees_all : goal.returns-clause-sees_all
returns-clause-sees_all c = refl

pub returns-clause-other_policy : goal.returns-clause-other_policy
returns-clause-other_policy c = refl

pub returns-clause-fault_is_dropped : goal.returns-clause-fault_is_dropped
unfolding function_named
returns-clause-fault_is_dropped c = refl

pub returns-clause-true_is_passed : goal.returns-clause-true_is_passed
unfolding function_named
returns-clause-true_is_passed c = refl

pub returns-clause-false_is_silent : goal.returns-clause-false_is_silent
unfolding function_named
returns-clause-false_is_silent c = refl

pub returns-clause-groups_anew : goal.returns-clause-groups_anew
returns-clause-groups_anew c = refl

pub returns-clause-other_measurement : goal.returns-clause-other_measurement
unfolding function_named
returns-clause-other_measurement c = refl

pub returns-clause-name_stays : goal.returns-clause-name_stays
returns-clause-name_stays c = refl

pub returns-clause-last_time : goal.returns-clause-last_time
returns-clause-last_time c = refl

pub returns-clause-behind_the_last_time : goal.returns-clause-behind_the_last_time
returns-clause-behind_the_last_time c = refl

pub returns-clause-first_of_two : goal.returns-clause-first_of_two
returns-clause-first_of_two c = refl

pub returns-clause-second_of_two : goal.returns-clause-second_of_two
returns-clause-second_of_two c = refl

pub returns-clause-third_of_two : goal.returns-clause-third_of_two
returns-clause-third_of_two c = refl
