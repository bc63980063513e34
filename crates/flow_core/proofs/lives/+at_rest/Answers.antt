use Rattle.flow_core.proofs.LivesLaws.{some_here, some_later}
use Rattle.flow_core.proofs.lives.+at_rest.Goals as goal

pub returns-then-not-at_rest-clause-alive : goal.returns-then-not-at_rest-clause-alive
returns-then-not-at_rest-clause-alive g t c = λ busy. some_here _ _ _ c.in-Some.ensures.cases.0 (c.if-not-at_rest.ensures.alive busy)

pub returns-clause-alive : goal.returns-clause-alive
returns-clause-alive g t c = λ busy. some_later _ _ _ c.in-Some.ensures.cases.0 (c.at_rest-2.ensures.alive busy)
