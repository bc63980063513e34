use Rattle.std.proofs.Common.{sym, subst}
use Rattle.flow_life.specs.Lives.{IsLife}
use Rattle.flow_life.proofs.MakingLaws.{life-none}
use Rattle.flow_life.proofs.life.Life.new.Goals as goal

pub invariant_of-result : goal.invariant_of-result
invariant_of-result g c = λ _. subst (IsLife g.N.Node) (sym c.new.ensures.items) (life-none g.N.Node)
