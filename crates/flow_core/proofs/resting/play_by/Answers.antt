use Rattle.std.proofs.Common.{◌∙◌}
use Rattle.flow_core.proofs.RunningLaws.{rests}
use Rattle.flow_core.proofs.resting.play_by.Goals as goal

pub returns-clause-rest : goal.returns-clause-rest
returns-clause-rest g c = rests g.N.Node c.args.lives.now _ _ (c.in_ok-play_turns.ensures.goes.keeps (c.in_ok-steps.ensures.lives c.requires)) (c.deref.ensures.value ∙ c.in_ok-steps.ensures.steps) c.in_ok-play_turns.ensures.goes.ends c.in_ok-play_turns.ensures.none

pub returns-clause-lives : goal.returns-clause-lives
returns-clause-lives g c = c.in_ok-play_turns.ensures.goes.keeps (c.in_ok-steps.ensures.lives c.requires)
