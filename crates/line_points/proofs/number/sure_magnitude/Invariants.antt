use Rattle.std.proofs.Common.{◌≡◌, true, take}
use Rattle.std.specs.Char.{is_ascii_digit}
use Rattle.std.specs.List.{list_all}
use Rattle.std.specs.Str.Parse.{digits_value}
use Rattle.line_points.proofs.number.sure_magnitude.Given as goal

abbrev pub invariant-adding : goal.invariant-adding
invariant-adding l = (list_all is_ascii_digit (take l.byte-index l.bytes) ≡ true)
    × (l.value ≡ digits_value 10 (take l.byte-index l.bytes))
