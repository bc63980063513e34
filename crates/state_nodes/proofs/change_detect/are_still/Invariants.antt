use Rattle.std.proofs.Common.{◌≡◌, length}
use Rattle.state_nodes.specs.ChangeDetects.{are_still}
use Rattle.state_nodes.proofs.change_detect.are_still.Given as goal

-- whether all stand there still is for the rest to say
abbrev pub invariant-comparing : goal.invariant-comparing
invariant-comparing l = are_still l.names_left l.values_left l.point ≡ are_still l.names l.values l.point

abbrev pub decreases-comparing : goal.decreases-comparing
decreases-comparing l = length l.names_left
