use Rattle.std.proofs.Common.{string_bytes}
use Rattle.tick_print.proofs.Escaping.{Escaping}
use Rattle.tick_print.proofs.literal.write_escaped.Given as goal

abbrev pub invariant-bytes : goal.invariant-bytes
invariant-bytes l = Escaping l.quote l.text (string_bytes l.fn.out) (string_bytes l.out) l.start l.index
