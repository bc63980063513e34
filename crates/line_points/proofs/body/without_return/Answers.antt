use Rattle.std.proofs.Common.{arith}
use Rattle.line_points.proofs.BodyLaws.{without_return-last}
use Rattle.line_points.proofs.body.without_return.Goals as goal

pub returns-then-last-eq13 : goal.returns-then-last-eq13
returns-then-last-eq13 c = grind (arith, without_return-last)

pub returns-else-last-eq13 : goal.returns-else-last-eq13
returns-else-last-eq13 c = grind (arith, without_return-last)
