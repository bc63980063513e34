use Rattle.std.proofs.Common.{refl}
use Rattle.std.specs.Int.{int_wrap}
use Rattle.lambda_types.specs.Functions.{function_named}
use Rattle.state_nodes.proofs.laws.examples_of_states.Goals as goal

pub returns-clause-first_true : goal.returns-clause-first_true
unfolding function_named
returns-clause-first_true c = refl

pub returns-clause-second_true : goal.returns-clause-second_true
unfolding function_named
returns-clause-second_true c = refl

pub returns-clause-fault_is_dropped : goal.returns-clause-fault_is_dropped
unfolding function_named
returns-clause-fault_is_dropped c = refl

pub returns-clause-row_goes_on : goal.returns-clause-row_goes_on
unfolding function_named
returns-clause-row_goes_on c = refl

pub returns-clause-false_ends_a_row : goal.returns-clause-false_ends_a_row
unfolding function_named
returns-clause-false_ends_a_row c = refl

pub returns-clause-first_is_a_change : goal.returns-clause-first_is_a_change
returns-clause-first_is_a_change c = refl

pub returns-clause-kinds_differ : goal.returns-clause-kinds_differ
returns-clause-kinds_differ c = refl

pub returns-clause-missing_differs : goal.returns-clause-missing_differs
returns-clause-missing_differs c = refl

pub returns-clause-first_integer : goal.returns-clause-first_integer
returns-clause-first_integer c = refl

pub returns-clause-less_than_before : goal.returns-clause-less_than_before
unfolding int_wrap
returns-clause-less_than_before c = refl

pub returns-clause-difference_wraps : goal.returns-clause-difference_wraps
unfolding int_wrap
returns-clause-difference_wraps c = refl

pub returns-clause-sum_wraps : goal.returns-clause-sum_wraps
unfolding int_wrap
returns-clause-sum_wraps c = refl

pub returns-clause-no_integer : goal.returns-clause-no_integer
returns-clause-no_integer c = refl

pub returns-clause-whole_units : goal.returns-clause-whole_units
returns-clause-whole_units c = refl

pub returns-clause-falling_times : goal.returns-clause-falling_times
returns-clause-falling_times c = refl

pub returns-clause-first_with_the_field : goal.returns-clause-first_with_the_field
returns-clause-first_with_the_field c = refl
