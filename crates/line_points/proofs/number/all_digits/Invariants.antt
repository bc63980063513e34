use Rattle.std.proofs.Common.{◌≡◌, take}
use Rattle.std.specs.Char.{is_ascii_digit}
use Rattle.std.specs.List.{list_all}
use Rattle.line_points.proofs.number.all_digits.Given as goal

abbrev pub invariant-looking : goal.invariant-looking
invariant-looking l = l.digits ≡ list_all is_ascii_digit (take l.byte-index l.bytes)
