use Rattle.std.proofs.Common.{◌≡◌, length}
use Rattle.std.specs.FinMap.{is_sorted}
use Rattle.std.specs.Ordering.{nat_cmp}
use Rattle.std.specs.Cmp.Lexicographic.{slice_cmp}
use Rattle.kap_base.proofs.key_map.rises.Given as goal

-- whether all rise is still for the rest to say
abbrev pub invariant-passing : goal.invariant-passing
invariant-passing g l = is_sorted (slice_cmp nat_cmp) l.rest ≡ is_sorted (slice_cmp nat_cmp) l.entries

abbrev pub decreases-passing : goal.decreases-passing
decreases-passing g l = length l.rest
