use Rattle.std.proofs.Common.{◌≡◌, map, take}
use Rattle.state_nodes.specs.ChangeDetects.{value_at}
use Rattle.state_nodes.proofs.change_detect.values_at.Given as goal

abbrev pub invariant-copying : goal.invariant-copying
invariant-copying l = l.values.items ≡ map (value_at l.point) (take l.name-index l.names)
