use Rattle.std.proofs.Common.{◌≡◌, [], ◌∷◌, ◌++◌, drop, map, take}
use Rattle.flow_cells.specs.Outs.{with_unsent}
use Rattle.flow_cells.proofs.outs.push_copies.Given as goal

-- the message waits at the outs that were passed
abbrev pub invariant-pushing : goal.invariant-pushing
invariant-pushing l = l.outs ≡ map (with_unsent (l.msg ∷ [])) (take l.out-index l.fn.outs) ++ drop l.out-index l.fn.outs
