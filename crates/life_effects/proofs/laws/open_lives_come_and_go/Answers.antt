use Rattle.life_effects.proofs.EndLaws.{courses_ended, numbers_begun, numbers_ended, open_begun}
use Rattle.life_effects.proofs.laws.open_lives_come_and_go.Goals as goal

pub returns-clause-begun : goal.returns-clause-begun
returns-clause-begun g c = open_begun

pub returns-clause-numbers_begun : goal.returns-clause-numbers_begun
returns-clause-numbers_begun g c = λ n lives task. numbers_begun n 1 lives task

pub returns-clause-ended : goal.returns-clause-ended
returns-clause-ended g c = λ points id number place lives graphs. courses_ended points id number 1 place lives graphs

pub returns-clause-numbers_ended : goal.returns-clause-numbers_ended
returns-clause-numbers_ended g c = λ n id number place lives. numbers_ended n id number 1 place lives
