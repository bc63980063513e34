use Rattle.lambda_types.proofs.FirstLaws.{is_first, only_first, typed_if_none_breaks}
use Rattle.lambda_types.proofs.inference.first_fault_is_first.Goals as goal

pub returns : goal.returns
returns c = record { first = is_first; only = only_first; typed = typed_if_none_breaks }
