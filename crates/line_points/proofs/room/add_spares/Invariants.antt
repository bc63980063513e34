use Rattle.std.proofs.Common.{◌≤◌, length}
use Rattle.line_points.specs.declared.room.TheConstants.{SPARE_LIMIT}
use Rattle.line_points.proofs.room.add_spares.Given as goal

-- there are few spare points
abbrev pub invariant-adding : goal.invariant-adding
invariant-adding l = record {
  few : length l.spares.items ≤ SPARE_LIMIT;
}
