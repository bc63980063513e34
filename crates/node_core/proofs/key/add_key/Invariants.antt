use Rattle.std.proofs.Common.{◌≡◌, ◌++◌, take}
use Rattle.std.specs.List.{flat_map}
use Rattle.node_core.specs.Keys.{ended, name_part, dim_part}
use Rattle.node_core.proofs.key.add_key.Given as goal

abbrev pub invariant-adding : goal.invariant-adding
invariant-adding l = l.to ≡ l.fn.to ++ ended (name_part l.point) ++ flat_map (dim_part l.point.tags) (take l.dim-index l.point.dims)
