use Rattle.std.proofs.Common.{take}
use Rattle.std.specs.List.{AllByRecursion as Each}
use Rattle.flow_core.specs.Nets.{IsSound}
use Rattle.flow_core.specs.Running.{AreOff, GoesOn, SameEnabledIn}
use Rattle.flow_core.proofs.resting.make_first.Given as goal

-- none of the steps that were tried can be made
abbrev pub invariant-trying : goal.invariant-trying
invariant-trying g l = record {
  sound : Each IsSound l.lives;
  goes : GoesOn g.N.Node l.fn.lives l.lives l.fn.gathered l.gathered;
  same : SameEnabledIn l.fn.lives l.lives;
  off : AreOff l.fn.lives (take l.next-index l.steps);
}
