use Rattle.std.proofs.Common.{◌≡◌, map, take}
use Rattle.kap_base.specs.Groups.{tag_value}
use Rattle.kap_base.proofs.groups.tag_values.Given as goal

-- the values of the tags that were passed
abbrev pub invariant-finding : goal.invariant-finding
invariant-finding l = l.values.items ≡ map (tag_value l.tags) (take l.dim-index l.dims)
