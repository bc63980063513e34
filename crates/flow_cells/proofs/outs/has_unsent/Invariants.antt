use Rattle.std.proofs.Common.{◌≡◌, length}
use Rattle.flow_cells.specs.Outs.{has_unsent}
use Rattle.flow_cells.proofs.outs.has_unsent.Given as goal

-- whether a message waits is for the rest to say
abbrev pub invariant-passing : goal.invariant-passing
invariant-passing l = has_unsent l.rest ≡ has_unsent l.outs

abbrev pub decreases-passing : goal.decreases-passing
decreases-passing l = length l.rest
