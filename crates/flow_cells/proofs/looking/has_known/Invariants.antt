use Rattle.std.proofs.Common.{◌≡◌, length}
use Rattle.flow_cells.specs.Looks.{has_known}
use Rattle.flow_cells.proofs.looking.has_known.Given as goal

-- whether a message is known is for the rest to say
abbrev pub invariant-passing : goal.invariant-passing
invariant-passing l = has_known l.rest ≡ has_known l.ins

abbrev pub decreases-passing : goal.decreases-passing
decreases-passing l = length l.rest
