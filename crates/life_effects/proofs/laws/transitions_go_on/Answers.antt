use Rattle.life_effects.proofs.TransLaws.{trans_next, trans_rest}
use Rattle.life_effects.proofs.laws.transitions_go_on.Goals as goal

pub returns-clause-more : goal.returns-clause-more
returns-clause-more c = trans_rest

pub returns-clause-next : goal.returns-clause-next
returns-clause-next c = trans_next
