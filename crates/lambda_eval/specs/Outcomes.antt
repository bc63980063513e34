-- What comes of an evaluation.
use Rattle.std.specs.Prelude.{Bool, false, Option, Some, None, Result, Ok, Err}
use Rattle.kap_base.specs.declared.value.Value.{Value}
use Rattle.kap_base.specs.declared.value.Value.TheVariants.{Bool as Truth}
use Rattle.lambda_fns.specs.declared.fault.EvalFault.{EvalFault}

-- the value, or None where there is a fault
abbrev pub value_or_none : Result Value EvalFault → Option Value
value_or_none (Ok v) = Some v
value_or_none (Err e) = None

-- whether it is true: nothing isn't, nor is a value that is no truth value
abbrev pub is_true : Option Value → Bool
is_true (Some (Truth b)) = b
is_true _ = false
