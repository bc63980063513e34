use Rattle.life_effects.proofs.EffectLaws.{effects_end, effects_fare, effects_go, effects_start, open_end, open_grown}
use Rattle.life_effects.proofs.FitLaws.{held_fits}
use Rattle.life_effects.proofs.laws.stores_go_on.Goals as goal

pub returns-clause-fit : goal.returns-clause-fit
returns-clause-fit g c = held_fits

pub returns-clause-ends : goal.returns-clause-ends
returns-clause-ends g c = open_end

pub returns-clause-more : goal.returns-clause-more
returns-clause-more g c = effects_go g.N.Node.answer g.N.Node.life g.N.Node.number g.met.N.Node.stamped

pub returns-clause-goes : goal.returns-clause-goes
returns-clause-goes g c = open_grown

pub returns-clause-begin : goal.returns-clause-begin
returns-clause-begin g c = effects_start g.N.Node.answer

pub returns-clause-end : goal.returns-clause-end
returns-clause-end g c = effects_end g.N.Node.answer

pub returns-clause-fare : goal.returns-clause-fare
returns-clause-fare g c = effects_fare g.N.Node.answer g.N.Node.life g.N.Node.number g.met.N.Node.stamped
