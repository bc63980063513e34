use Rattle.std.proofs.Common.{◌≡◌, take}
use Rattle.std.specs.Char.{is_ascii}
use Rattle.std.specs.List.{list_all}
use Rattle.line_points.proofs.bytes.is_ascii.Given as goal

abbrev pub invariant-looking : goal.invariant-looking
invariant-looking l = l.ascii ≡ list_all is_ascii (take l.byte-index l.bytes)
