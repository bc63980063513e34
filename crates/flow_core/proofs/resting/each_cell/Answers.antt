use Rattle.flow_core.proofs.RunningLaws.{goes_then}
use Rattle.flow_core.proofs.resting.each_cell.Goals as goal

pub cells-preserved : goal.cells-preserved
cells-preserved g c = record {
  sound = c.in_ok-exhaust.ensures.sound;
  goes = goes_then g.N.Node _ _ _ _ _ _ c.cells.invariant.goes c.in_ok-exhaust.ensures.goes;
}
