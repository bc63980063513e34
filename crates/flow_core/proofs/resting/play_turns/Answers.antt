use Rattle.std.proofs.Common.{rules}
use Rattle.flow_core.proofs.RunningLaws.{goes_then}
use Rattle.flow_core.proofs.resting.play_turns.Goals as goal

pub turning-preserved : goal.turning-preserved
turning-preserved g c = record {
  place = search rules;
  sound = c.in_ok-make_next.ensures.sound;
  goes = goes_then g.N.Node _ _ _ _ _ _ c.turning.invariant.goes c.in_ok-make_next.ensures.goes;
}

pub returns-clause-goes : goal.returns-clause-goes
returns-clause-goes g c = goes_then g.N.Node _ _ _ _ _ _ c.turning.invariant.goes c.in_ok-make_next.ensures.goes
