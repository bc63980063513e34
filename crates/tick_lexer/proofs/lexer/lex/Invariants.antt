use Rattle.std.proofs.Common.{◌-◌, ◌≤◌, length}
use Rattle.tick_lexer.proofs.Lexing.{Continues}
use Rattle.tick_lexer.proofs.lexer.lex.Given as goal

-- Whatever the lexer takes of the rest, it takes behind the tokens so far.
abbrev pub invariant-tokens : goal.invariant-tokens
invariant-tokens l = record {
  within : l.at ≤ length l.text;
  runs : Continues l.tokens l.pattern l.at l.text;
}

abbrev pub decreases-tokens : goal.decreases-tokens
decreases-tokens l = length l.text - l.at
