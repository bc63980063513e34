use Rattle.std.proofs.Common.{◌≡◌, length}
use Rattle.flow_life.specs.Loads.{has_barrier}
use Rattle.flow_life.proofs.marks.has_barrier.Given as goal

-- the rest decides
abbrev pub invariant-passing : goal.invariant-passing
invariant-passing l = has_barrier l.rest ≡ has_barrier l.msgs

abbrev pub decreases-passing : goal.decreases-passing
decreases-passing l = length l.rest
