use Rattle.flow_core.proofs.RunningLaws.{goes_then}
use Rattle.flow_core.proofs.resting.run_passes.Goals as goal

pub passing-preserved : goal.passing-preserved
passing-preserved g c = record {
  sound = c.in_ok-each_cell.ensures.sound;
  goes = goes_then g.N.Node _ _ _ _ _ _ (goes_then g.N.Node _ _ _ _ _ _ c.passing.invariant.goes c.in_ok-make_first.ensures.goes) c.in_ok-each_cell.ensures.goes;
}

pub returns-clause-goes : goal.returns-clause-goes
returns-clause-goes g c = goes_then g.N.Node _ _ _ _ _ _ c.passing.invariant.goes c.in_ok-make_first.ensures.goes
