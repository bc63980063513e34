use Rattle.std.proofs.Common.{length}
use Rattle.std.specs.List.{AllByRecursion as Each}
use Rattle.flow_core.specs.Nets.{IsSound}
use Rattle.flow_core.specs.Running.{GoesOn}
use Rattle.flow_core.proofs.resting.each_cell.Given as goal

-- lives go on from where they were
abbrev pub invariant-cells : goal.invariant-cells
invariant-cells g l = record {
  sound : Each IsSound l.lives;
  goes : GoesOn g.N.Node l.fn.lives l.lives l.fn.gathered l.gathered;
}

abbrev pub decreases-cells : goal.decreases-cells
decreases-cells g l = length l.rest
