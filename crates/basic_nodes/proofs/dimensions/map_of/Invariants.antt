use Rattle.std.proofs.Common.{◌≡◌, take}
use Rattle.basic_nodes.specs.Dimensions.{map_of}
use Rattle.basic_nodes.proofs.dimensions.map_of.Given as goal

abbrev pub invariant-adding : goal.invariant-adding
invariant-adding l = l.keyed ≡ map_of (take l.name-index l.names)
