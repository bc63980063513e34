use Rattle.lambda_fns.proofs.SortLaws.{call_typed, call_kind}
use Rattle.lambda_fns.proofs.laws.calls_are_typed.Goals as goal

pub returns : goal.returns
returns c = record { of_its_types = call_typed; of_others = call_kind }
