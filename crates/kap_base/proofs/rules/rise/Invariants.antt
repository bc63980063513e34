use Rattle.std.proofs.Common.{◌≡◌, length}
use Rattle.kap_base.specs.Points.{rises}
use Rattle.kap_base.proofs.rules.rise.Given as goal

abbrev pub invariant-passing : goal.invariant-passing
invariant-passing l = rises l.rest ≡ rises l.names

abbrev pub decreases-passing : goal.decreases-passing
decreases-passing l = length l.rest
