use Rattle.std.proofs.Common.{◌≡◌, length}
use Rattle.std.specs.Cmp.Lexicographic.{slice_cmp}
use Rattle.std.specs.Ordering.{nat_cmp}
use Rattle.kap_base.proofs.bytes.order.Given as goal

abbrev pub invariant-comparing : goal.invariant-comparing
invariant-comparing l = slice_cmp nat_cmp l.ones l.others ≡ slice_cmp nat_cmp l.one l.other

abbrev pub decreases-comparing : goal.decreases-comparing
decreases-comparing l = length l.ones
