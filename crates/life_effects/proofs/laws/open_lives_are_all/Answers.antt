use Rattle.life_effects.proofs.OpenAloneLaws.{alone_effects}
use Rattle.life_effects.proofs.laws.open_lives_are_all.Goals as goal

pub returns : goal.returns
returns g c = alone_effects g.N.Node.answer
