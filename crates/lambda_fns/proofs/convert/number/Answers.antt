use Rattle.std.proofs.Common.{◌∙◌, sym}
use Rattle.lambda_fns.proofs.NumberLaws.{number_is}
use Rattle.lambda_fns.proofs.convert.number.Goals as goal

pub returns : goal.returns
returns c = c.ok.ensures.value ∙ number_is c.args.text.now c.parse.result (sym c.has_plus.ensures ∙ c.if-has_plus.false) c.parse.ensures.value.0
