use Rattle.std.specs.List.{AllZip}
use Rattle.flow_life.specs.Loose.{AreSettledTo, HasLooked, KeepTo}
use Rattle.flow_life.proofs.settling.settle_cells.Given as goal

-- the edges of the cells that were passed are settled, and these keep what a cell keeps
abbrev pub invariant-settling : goal.invariant-settling
invariant-settling g l = record {
  looked : AllZip HasLooked l.fn.cells l.cells;
  settled : AreSettledTo l.cells l.child 0;
  keeps : KeepTo g.N.Node l.child l.cells;
}
