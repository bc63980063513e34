use Rattle.engine_runs.proofs.OpenLaws.{effects_on}
use Rattle.engine_runs.proofs.laws.effects_come_behind.Goals as goal

pub returns : goal.returns
returns g c = effects_on g.N.Node.answer g.N.Node.life g.N.Node.number g.met.N.Node.stamped
