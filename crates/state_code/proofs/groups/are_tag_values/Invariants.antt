use Rattle.std.proofs.Common.{◌≡◌, length}
use Rattle.kap_base.specs.Groups.{are_tag_values}
use Rattle.state_code.proofs.groups.are_tag_values.Given as goal

-- whether they fit is still for the rest to say
abbrev pub invariant-passing : goal.invariant-passing
invariant-passing l = are_tag_values l.dims_left l.values_left ≡ are_tag_values l.dims l.values

abbrev pub decreases-passing : goal.decreases-passing
decreases-passing l = length l.dims_left
