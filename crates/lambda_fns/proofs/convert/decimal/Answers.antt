use Rattle.std.proofs.Common.{◌∙◌, ap, w64}
use Rattle.std.specs.Fmt.{signed_decimal}
use Rattle.std.proofs.lemmas.Int.{to_z-of_z}
use Rattle.lambda_fns.proofs.LineLaws.{decimal_line}
use Rattle.lambda_fns.proofs.convert.decimal.Goals as goal

pub returns-clause-line : goal.returns-clause-line
returns-clause-line c =
    let fits = c.ranges.number in
    let text = c.from_string.ensures.text ∙ c.in_ok-to_string.ensures.ok ∙ ap signed_decimal (to_z-of_z w64 c.args.number fits) in
    decimal_line c.args.number c.from_string.result text c.from_string.ensures.utf8 fits
