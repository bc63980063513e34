use Rattle.std.proofs.Common.{◌≡◌, drop}
use Rattle.tick_lexer.specs.Front.{before_three, plus}
use Rattle.tick_lexer.proofs.quote.before_three.Given as goal

abbrev pub invariant-bytes : goal.invariant-bytes
invariant-bytes l = plus l.index (before_three (drop l.index l.text)) ≡ before_three l.text
