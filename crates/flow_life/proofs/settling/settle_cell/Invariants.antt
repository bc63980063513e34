use Rattle.std.specs.List.{AllZip}
use Rattle.flow_life.specs.Loose.{AreSettledTo, HasLooked}
use Rattle.flow_life.proofs.settling.settle_cell.Given as goal

-- the edges of the inputs that were passed are settled
abbrev pub invariant-settling : goal.invariant-settling
invariant-settling g l = record {
  looked : AllZip HasLooked l.fn.cells l.cells;
  settled : AreSettledTo l.cells l.child l.input;
}
