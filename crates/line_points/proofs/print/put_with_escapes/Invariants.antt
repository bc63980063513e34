use Rattle.std.proofs.Common.{◌≡◌, ◌++◌, take}
use Rattle.line_points.specs.Print.{part_text}
use Rattle.line_points.proofs.print.put_with_escapes.Given as goal

abbrev pub invariant-bytes : goal.invariant-bytes
invariant-bytes l = l.out ≡ l.fn.out ++ part_text l.part (take l.byte-index l.bytes)
