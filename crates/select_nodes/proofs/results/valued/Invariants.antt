use Rattle.std.proofs.Common.{◌≡◌, ◌++◌, length}
use Rattle.std.specs.Vec.Iter.{into_iter_items}
use Rattle.select_nodes.specs.Results.{valued}
use Rattle.select_nodes.proofs.results.valued.Given as goal

-- what was paired stands before what is left
abbrev pub invariant-pairing : goal.invariant-pairing
invariant-pairing l = l.entries.items ++ valued l.dims_left (into_iter_items l.values_left) ≡ valued l.dims l.fn.values

abbrev pub decreases-pairing : goal.decreases-pairing
decreases-pairing l = length l.dims_left
