use Rattle.std.proofs.Common.{true, false}
use Rattle.lambda_fns.proofs.LineLaws.{truth_line}
use Rattle.lambda_fns.proofs.convert.text_of_truth.Goals as goal

pub returns-then-truth-clause-line : goal.returns-then-truth-clause-line
returns-then-truth-clause-line c = truth_line true c.from_str.result c.from_str.ensures.text c.from_str.ensures.utf8

pub returns-else-truth-clause-line : goal.returns-else-truth-clause-line
returns-else-truth-clause-line c = truth_line false c.from_str-else-truth.result c.from_str-else-truth.ensures.text c.from_str-else-truth.ensures.utf8
