use Rattle.std.proofs.Common.{string_bytes}
use Rattle.tick_lexer.proofs.Reading.{Reading}
use Rattle.tick_lexer.proofs.quote.scan_quoted.Given as goal

abbrev pub invariant-bytes : goal.invariant-bytes
invariant-bytes l = Reading l.quote l.text (string_bytes l.read) l.start l.stop l.index l.behind
