use Rattle.std.proofs.Common.{◌≡◌, false, drop}
use Rattle.tick_lexer.specs.Runs.{skipped}
use Rattle.tick_lexer.proofs.lexer.gap_length.Given as goal

abbrev pub invariant-gap : goal.invariant-gap
invariant-gap l = skipped (drop l.at l.text) l.comment ≡ skipped l.text false
