use Rattle.std.proofs.Common.{◌≡◌, length}
use Rattle.flow_life.specs.Loads.{has_inner}
use Rattle.flow_life.proofs.marks.has_inner.Given as goal

-- the rest decides
abbrev pub invariant-passing : goal.invariant-passing
invariant-passing l = has_inner l.rest ≡ has_inner l.msgs

abbrev pub decreases-passing : goal.decreases-passing
decreases-passing l = length l.rest
