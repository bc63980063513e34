use Rattle.std.specs.List.{AllByRecursion as Each}
use Rattle.flow_core.specs.Nets.{IsSound}
use Rattle.flow_core.specs.Running.{GoesOn, left_in}
use Rattle.flow_core.proofs.resting.run_passes.Given as goal

-- lives go on from where they were
abbrev pub invariant-passing : goal.invariant-passing
invariant-passing g l = record {
  sound : Each IsSound l.lives;
  goes : GoesOn g.N.Node l.fn.lives l.lives l.fn.gathered l.gathered;
}

abbrev pub decreases-passing : goal.decreases-passing
decreases-passing g l = left_in g.N.Node l.lives
