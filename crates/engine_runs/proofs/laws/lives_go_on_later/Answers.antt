use Rattle.engine_runs.proofs.OpenLaws.{courses_later, effects_later, numbers_later, spans_later}
use Rattle.engine_runs.proofs.laws.lives_go_on_later.Goals as goal

pub returns-clause-spans : goal.returns-clause-spans
returns-clause-spans g c = spans_later

pub returns-clause-numbers : goal.returns-clause-numbers
returns-clause-numbers g c = numbers_later

pub returns-clause-courses : goal.returns-clause-courses
returns-clause-courses g c = courses_later

pub returns-clause-effects : goal.returns-clause-effects
returns-clause-effects g c = effects_later g.N.Node.answer
