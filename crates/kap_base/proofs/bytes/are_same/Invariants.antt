use Rattle.std.proofs.Common.{◌≡◌, bytes_eq, length}
use Rattle.kap_base.proofs.bytes.are_same.Given as goal

abbrev pub invariant-comparing : goal.invariant-comparing
invariant-comparing l = bytes_eq l.ones l.others ≡ bytes_eq l.one l.other

abbrev pub decreases-comparing : goal.decreases-comparing
decreases-comparing l = length l.ones
