use Rattle.std.proofs.Common.{◌≡◌, ◌++◌, reverse, vec_len}
use Rattle.flow_cells.proofs.gathering.push_effects.Given as goal

-- with the effects that are left all will be there
abbrev pub invariant-pushing : goal.invariant-pushing
invariant-pushing l = l.to ++ reverse l.rest.items ≡ l.fn.to ++ l.fn.effects

abbrev pub decreases-pushing : goal.decreases-pushing
decreases-pushing l = vec_len l.rest
