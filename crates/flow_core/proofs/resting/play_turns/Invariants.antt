use Rattle.std.proofs.Common.{◌<◌, length}
use Rattle.std.specs.List.{AllByRecursion as Each}
use Rattle.flow_core.specs.Nets.{IsSound}
use Rattle.flow_core.specs.Running.{GoesOn, left_in}
use Rattle.flow_core.proofs.resting.play_turns.Given as goal

-- lives go on from where they were
abbrev pub invariant-turning : goal.invariant-turning
invariant-turning g l = record {
  place : l.place < length l.steps;
  sound : Each IsSound l.lives;
  goes : GoesOn g.N.Node l.fn.lives l.lives l.fn.gathered l.gathered;
}

abbrev pub decreases-turning : goal.decreases-turning
decreases-turning g l = left_in g.N.Node l.lives
