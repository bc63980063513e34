use Rattle.flow_core.proofs.RunningLaws.{goes_then}
use Rattle.flow_core.proofs.resting.exhaust.Goals as goal

pub making-preserved : goal.making-preserved
making-preserved g c = record {
  sound = c.in_ok-make_first.ensures.sound;
  goes = goes_then g.N.Node _ _ _ _ _ _ c.making.invariant.goes c.in_ok-make_first.ensures.goes;
}

pub returns-clause-goes : goal.returns-clause-goes
returns-clause-goes g c = goes_then g.N.Node _ _ _ _ _ _ c.making.invariant.goes c.in_ok-make_first.ensures.goes
