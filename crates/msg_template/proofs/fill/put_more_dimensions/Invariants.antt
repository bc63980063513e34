use Rattle.std.proofs.Common.{◌≡◌, ◌++◌, length, string_bytes, zip}
use Rattle.std.specs.List.{flat_map}
use Rattle.msg_template.specs.Filling.{comma_dimension}
use Rattle.msg_template.proofs.fill.put_more_dimensions.Given as goal

-- the rest is still to be put
abbrev pub invariant-dimensions : goal.invariant-dimensions
invariant-dimensions l = string_bytes l.out ++ flat_map comma_dimension (zip l.dims l.values) ≡ string_bytes l.fn.out ++ flat_map comma_dimension (zip l.fn.dims l.fn.values)

abbrev pub decreases-dimensions : goal.decreases-dimensions
decreases-dimensions l = length l.dims
