use Rattle.std.proofs.Common.{◌≡◌, length}
use Rattle.join_node.specs.Results.{first_in}
use Rattle.join_node.proofs.results.take_first.Given as goal

-- the first present parent is among the rest
abbrev pub invariant-passing : goal.invariant-passing
invariant-passing l = first_in l.left l.places.rest.items ≡ first_in l.prefixes l.fn.set

abbrev pub decreases-passing : goal.decreases-passing
decreases-passing l = length l.left
