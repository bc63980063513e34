use Rattle.task_run.proofs.CourseLaws.{effects_begin, effects_from_first, effects_more}
use Rattle.task_run.proofs.laws.courses_go_on.Goals as goal

pub returns-clause-more : goal.returns-clause-more
returns-clause-more g c = effects_more g.N.Node.answer g.N.Node.life g.N.Node.number g.met.N.Node.stamped

pub returns-clause-begin : goal.returns-clause-begin
returns-clause-begin g c = effects_begin g.N.Node.answer

pub returns-clause-first : goal.returns-clause-first
returns-clause-first g c = effects_from_first g.N.Node.answer
