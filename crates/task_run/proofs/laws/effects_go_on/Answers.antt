use Rattle.task_run.specs.PointLaws.{effects_more}
use Rattle.task_run.proofs.OrderLaws.{effects_by_stamp}
use Rattle.task_run.proofs.EffectLaws.{effects_in_order}
use Rattle.task_run.proofs.laws.effects_go_on.Goals as goal

pub returns-clause-more : goal.returns-clause-more
returns-clause-more g c = effects_more g.N.Node.answer g.N.Node.life g.N.Node.number g.met.N.Node.stamped

pub returns-clause-ordered : goal.returns-clause-ordered
returns-clause-ordered g c = λ lives points are. effects_in_order g.N.Node.answer g.N.Node.life g.N.Node.number g.met.N.Node.stamped points lives are

pub returns-clause-whole : goal.returns-clause-whole
returns-clause-whole g c = effects_by_stamp g.N.Node.answer g.N.Node.life g.N.Node.number g.met.N.Node.stamped
