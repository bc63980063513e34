use Rattle.lambda_types.proofs.SomeType.{some_type}
use Rattle.lambda_eval.proofs.FitLaws.{fit}
use Rattle.lambda_eval.proofs.values.evaluate_whole.Goals as goal

pub evaluate-requires : goal.evaluate-requires
evaluate-requires c =
    let lambda = c.lambda.inside in
    record { fit = rw (lambda.has_patterns, c.expr.ensures) (fit lambda.expr (some_type lambda.expr lambda.types lambda.has_types lambda.has_some)) }
