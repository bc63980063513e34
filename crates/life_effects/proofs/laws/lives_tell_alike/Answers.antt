use Rattle.life_effects.proofs.RenumberLaws.{effects_alike}
use Rattle.life_effects.proofs.laws.lives_tell_alike.Goals as goal

pub returns : goal.returns
returns g c = effects_alike g.N.Node.answer
