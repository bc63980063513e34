use Rattle.std.proofs.Common.{◌≡◌, ◌++◌, drop}
use Rattle.tick_compile.specs.Joins.{lent}
use Rattle.tick_compile.proofs.joins.lent.Given as goal

abbrev pub invariant-lending : goal.invariant-lending
invariant-lending l = lent l.texts.items ++ drop l.name-index l.names ≡ l.names
